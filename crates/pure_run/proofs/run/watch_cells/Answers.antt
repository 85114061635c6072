use Rattle.std.proofs.Common.{arith}
use Rattle.run_rules.specs.declared.verdict.Verdict.TheVariants.{Ended}
use Rattle.pure_run.proofs.Places.{all-end}
use Rattle.pure_run.proofs.run.watch_cells.Goals as goal

pub returns : goal.returns
returns c =
    all-end c.args.world.now c.args.steps Ended c.args.failed.now.items c.loop-i.failed.items c.args.monitors.now
    c.requires.each c.loop-i.invariant.long (λ k below. c.loop-i.invariant.looked k (omega (arith, c.loop-i-test.false)))
