use Rattle.std.proofs.Common.{◌≡◌, ◌+◌, sum, take}
use Rattle.draw_split.proofs.place.split_one.Given as goal

abbrev pub invariant-loop-thread : goal.invariant-loop-thread
invariant-loop-thread l = l.rest + sum (take l.thread l.left) ≡ l.draw
