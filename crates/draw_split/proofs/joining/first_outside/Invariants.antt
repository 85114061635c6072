use Rattle.std.proofs.Common.{ℕ, ◌+◌, ◌<◌, length, slice_index}
use Rattle.draw_split.proofs.joining.first_outside.Given as goal

abbrev pub invariant-loop-place : goal.invariant-loop-place
invariant-loop-place l = (j : ℕ) → j < l.place → slice_index l.offsets j + j < length l.offsets
