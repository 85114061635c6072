use Rattle.std.proofs.Common.{◌+◌, ◌-◌, length, ap}
use Rattle.walk_rules.specs.Pct.{place_of}
use Rattle.walk_rules.proofs.FirstPriorities.{drawn-more}
use Rattle.walk_rules.proofs.ranks.priorities_along.Goals as goal

pub loop-thread-preserved : goal.loop-thread-preserved
loop-thread-preserved c =
    drawn-more (λ thread. c.args.depth - 1 + length c.args.order.now - place_of c.args.order.now thread) _ _ _ _ c.loop-thread.invariant.0
    c.loop-thread.invariant.1 c.push.ensures.items
    (ap (λ p. c.args.depth - 1 + length c.args.order.now - p) c.place_of.ensures.place)
