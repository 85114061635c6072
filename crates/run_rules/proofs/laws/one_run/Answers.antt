use Rattle.seed_draws.specs.Answers.{source_of}
use Rattle.run_rules.specs.Plan.{script_of}
use Rattle.seed_draws.proofs.Asked.{is-source}
use Rattle.run_rules.proofs.OneRun.{one_run}
use Rattle.run_rules.proofs.laws.one_run.Goals as goal

pub returns : goal.returns
returns g c =
    let plan = c.args.plan.now in
    let selected = source_of g.S.Draws plan.selected in
    let other = source_of g.O.Draws plan.other in
    one_run (script_of g.R.Routine g.S.Draws g.O.Draws plan)
    (c.requires.valid selected other)
    (is-source g.S.Draws g.met.S.Draws.below_its_bound plan.selected)
    (is-source g.O.Draws g.met.O.Draws.below_its_bound plan.other)
