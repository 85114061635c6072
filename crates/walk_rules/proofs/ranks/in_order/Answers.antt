use Rattle.std.proofs.Common.{ap, ◌∙◌, arith}
use Rattle.frame_links.specs.Lists.{at_back}
use Rattle.walk_rules.proofs.NodeOrder.{ordered-all, ordered-first, ordered-next, ordered-node}
use Rattle.walk_rules.proofs.ranks.in_order.Goals as goal

pub loop-thread-init : goal.loop-thread-init
loop-thread-init c = ordered-first c.args.links.now c.args.order.now c.requires.each_once

pub to_back-requires-clause-list : goal.to_back-requires-clause-list
to_back-requires-clause-list c = omega (arith, c.requires.one, c.loop-thread.invariant.nodes.lists)

pub to_back-requires-clause-node : goal.to_back-requires-clause-node
to_back-requires-clause-node c =
    omega (
      arith,
      c.from.ensures,
      ordered-node c.args.links.now c.loop-thread.links c.args.order.now c.loop-thread.thread-index c.requires.one
          c.requires.order c.loop-thread-test.true c.loop-thread.invariant,
    )

pub loop-thread-preserved : goal.loop-thread-preserved
loop-thread-preserved c =
    ordered-next c.args.links.now c.loop-thread.links c.args.order.now c.loop-thread.thread-index c.requires.one c.requires.order c.loop-thread-test.true
    c.to_back.new.self c.loop-thread.invariant
    (c.to_back.ensures.after ∙ ap (at_back c.loop-thread.links 0) c.from.ensures) c.to_back.ensures.same_nodes

pub returns-clause-list : goal.returns-clause-list
returns-clause-list c =
    ordered-all c.args.links.now c.loop-thread.links c.args.order.now c.loop-thread.thread-index c.requires.one c.requires.order c.loop-thread-test.false
    c.loop-thread.invariant
