use Rattle.surw_base.specs.declared.limits.TheConstants.{THREADS}
use Rattle.std.proofs.Common.{◌≡◌, ℕ, ◌<◌, length, slice_index}
use Rattle.draw_split.specs.JoinFault.{offsets_of}
use Rattle.draw_split.specs.Rooms.{IsInRoom}
use Rattle.draw_split.proofs.joining.in_rooms.Given as goal

abbrev pub invariant-loop-number : goal.invariant-loop-number
invariant-loop-number l =
    ((other : ℕ) → other < l.number → IsInRoom (slice_index l.counts other) (offsets_of l.split other))
    × (0 < l.number → length l.split.offsets ≡ THREADS)
