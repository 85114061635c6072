use Rattle.std.proofs.Common.{◌≡◌, sum, take}
use Rattle.draw_split.proofs.weights.Weights.new.Given as goal

abbrev pub invariant-loop-count : goal.invariant-loop-count
invariant-loop-count l = (l.kept.items ≡ take l.count-index l.counts) × (l.sum ≡ sum (take l.count-index l.counts))
