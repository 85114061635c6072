use Rattle.std.proofs.Common.{ap, ◌∙◌}
use Rattle.gate_core.specs.Log.{made_by}
use Rattle.gate_core.proofs.Logs.{is-own}
use Rattle.gate_core.proofs.own_logs.all_own.Goals as goal

pub returns-in-Some : goal.returns-in-Some
returns-in-Some g c ends thread log at =
    is-own g.R.Routine c.args.run.now.journal c.args.run.now.words thread log _
    (c.in-Some.ensures thread log at ∙ ap (made_by thread) c.journal.ensures.same)
    (c.all_end.ensures ends thread log at)
