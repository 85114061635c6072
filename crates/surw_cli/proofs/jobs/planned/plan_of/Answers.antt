use Rattle.std.proofs.lemmas.Result.{err_from_is_err_and}
use Rattle.surw_cli.proofs.ProfileStops.{plan-stop}
use Rattle.surw_cli.proofs.jobs.planned.plan_of.Goals as goal

pub returns-in_err-counts-clause-stopped : goal.returns-in_err-counts-clause-stopped
returns-in_err-counts-clause-stopped c =
    let p = err_from_is_err_and c.from_residual-in_err-counts.result c.from_residual-in_err-counts.ensures.1 in
    rw (p.1, p.2) (plan-stop c.args.choice.now c.args.bytes.now c.in_ok-scenario.scenario c.in_err-counts.field-0.0 c.in_ok-scenario.ensures.ok c.in_err-counts.ensures.stopped)

pub returns-clause-planned : goal.returns-clause-planned
returns-clause-planned c = record {
  scenario = c.in_ok-scenario.scenario;
  form = c.in_ok-scenario.ensures.ok;
  counts = c.in_ok-counts.counts;
  counted = c.in_ok-counts.ensures.counts;
  planned = c.in_ok-plan.ensures.plan;
}
