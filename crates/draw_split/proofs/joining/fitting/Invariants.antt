use Rattle.std.proofs.Common.{◌≡◌, ℕ, ◌<◌, slice_index}
use Rattle.draw_split.specs.JoinFault.{times}
use Rattle.draw_split.proofs.joining.fitting.Given as goal

abbrev pub invariant-loop-number : goal.invariant-loop-number
invariant-loop-number l = (other : ℕ) → other < l.number → times l.split.order other ≡ slice_index l.counts other
