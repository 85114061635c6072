use Rattle.draw_split.proofs.NamedOrders.{AreSplit}
use Rattle.draw_split.proofs.naming.order_of.Given as goal

abbrev pub invariant-loop-draw : goal.invariant-loop-draw
invariant-loop-draw l = AreSplit l.counts l.left l.draws l.split l.draw-index
