use Rattle.std.proofs.Common.{◌≡◌, ◌+◌, ◌*◌, ◌^◌, ◌<◌, sum, take}
use Rattle.draw_split.proofs.place.join_one.Given as goal

abbrev pub invariant-loop-count : goal.invariant-loop-count
invariant-loop-count l = (l.draw ≡ l.offset + sum (take l.count-index l.lower)) × (l.draw < (l.count-index + 1) * 2 ^ 32)
