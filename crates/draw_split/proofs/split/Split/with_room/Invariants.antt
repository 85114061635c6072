use Rattle.std.proofs.Common.{◌≡◌, [], map, replicate}
use Rattle.draw_split.proofs.split.Split.with_room.Given as goal

abbrev pub invariant-loop-count : goal.invariant-loop-count
invariant-loop-count l = map (λ list. list.items) l.offsets.items ≡ replicate l.count-index []
