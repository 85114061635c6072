use Rattle.std.proofs.Common.{length, sum}
use Rattle.pct_draws.proofs.OrderDraws.{IsOrderSoFar}
use Rattle.pct_draws.proofs.thread_order.draw_order.Given as goal

abbrev pub invariant-loop-left : goal.invariant-loop-left
invariant-loop-left g l = IsOrderSoFar g.S.Draws l.initial.selected l.selected (length l.counts) l.left l.order.items

abbrev pub decreases-loop-left : goal.decreases-loop-left
decreases-loop-left g l = sum l.left
