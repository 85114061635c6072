use Rattle.surw_base.specs.declared.limits.TheConstants.{THREADS}
use Rattle.std.proofs.Common.{◌≡◌, ℕ, ◌<◌, length, slice_index}
use Rattle.draw_split.specs.JoinFault.{offsets_of}
use Rattle.draw_split.proofs.joining.filled.Given as goal

abbrev pub invariant-loop-number : goal.invariant-loop-number
invariant-loop-number l =
    ((other : ℕ) → other < l.number → length (offsets_of l.split other) ≡ slice_index l.counts other)
    × (0 < l.number → length l.split.offsets ≡ THREADS)
