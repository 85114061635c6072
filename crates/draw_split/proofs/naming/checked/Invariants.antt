use Rattle.std.proofs.Common.{ℕ, ◌+◌, ◌<◌, sum, slice_index}
use Rattle.draw_split.proofs.naming.checked.Given as goal

abbrev pub invariant-loop-place : goal.invariant-loop-place
invariant-loop-place l = (k : ℕ) → k < l.place → slice_index l.draws k + k < sum l.counts
