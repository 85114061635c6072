use Rattle.std.proofs.Common.{◌≡◌}
use Rattle.draw_sum.specs.Sum.{source_after, sum_of}
use Rattle.draw_sum.proofs.sum_of.Given as goal

abbrev pub invariant-loop-draw : goal.invariant-loop-draw
invariant-loop-draw l = (l.sum ≡ sum_of l.fn.source l.bound l._draw) × (l.source ≡ source_after l.fn.source l.bound l._draw)
