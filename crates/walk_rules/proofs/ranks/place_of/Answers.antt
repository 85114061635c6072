use Rattle.walk_rules.proofs.FirstPriorities.{place-end, place-here, place-later}
use Rattle.walk_rules.proofs.ranks.place_of.Goals as goal

pub returns-then-other-thread-clause-place : goal.returns-then-other-thread-clause-place
returns-then-other-thread-clause-place c =
    place-here c.args.order.now c.loop-place.place c.args.thread c.loop-place-test.true c.if-other-thread.true c.loop-place.invariant

pub loop-place-preserved : goal.loop-place-preserved
loop-place-preserved c = place-later c.args.order.now c.loop-place.place c.args.thread c.loop-place-test.true c.if-other-thread.false c.loop-place.invariant

pub returns-clause-place : goal.returns-clause-place
returns-clause-place c = place-end c.args.order.now c.loop-place.place c.args.thread c.loop-place-test.false c.loop-place.auto.place-end c.loop-place.invariant
