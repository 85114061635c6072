use Rattle.walk_rules.proofs.NodeOrder.{IsOrderedTo}
use Rattle.walk_rules.proofs.ranks.in_order.Given as goal

abbrev pub invariant-loop-thread : goal.invariant-loop-thread
invariant-loop-thread l = IsOrderedTo l.initial.links l.links l.order l.thread-index
