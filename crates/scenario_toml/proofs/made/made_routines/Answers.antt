use Rattle.std.proofs.Common.{◌∙◌}
use Rattle.scenario_toml.proofs.MadeThreads.{made-none, made-more}
use Rattle.scenario_toml.proofs.made.made_routines.Goals as goal

pub loop-thread-init : goal.loop-thread-init
loop-thread-init c = c.in_ok-routines.ensures.items ∙ made-none c.args.number

pub loop-thread-preserved : goal.loop-thread-preserved
loop-thread-preserved c =
    made-more c.args.number c.loop-thread.thread _ _ _ c.loop-thread.invariant c.in_ok-push.ensures.items c.in_ok-made_routine.ensures
