use Rattle.std.proofs.Common.{arith}
use Rattle.pure_run.proofs.Places.{all-then}
use Rattle.pure_run.proofs.monitors.watch.Goals as goal

pub returns : goal.returns
returns c =
    all-then c.args.world.now c.args.step c.args.failed.now.items c.loop-i.failed.items c.args.monitors.now
    c.requires.each c.loop-i.invariant.long (λ k below. c.loop-i.invariant.looked k (omega (arith, c.loop-i-test.false)))
