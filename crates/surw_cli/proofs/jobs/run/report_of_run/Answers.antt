use Rattle.std.proofs.Common.{option_map}
use Rattle.std.proofs.lemmas.Result.{IfErr-weaker, IfOk-weaker, err_from_is_err_and}
use Rattle.surw_cli.specs.PlanAnswer.{plan_answer}
use Rattle.surw_cli.proofs.Outcomes.{run-report, run-stop}
use Rattle.surw_cli.proofs.jobs.run.report_of_run.Goals as goal

pub returns-in_err-saved-clause-stopped : goal.returns-in_err-saved-clause-stopped
returns-in_err-saved-clause-stopped g c =
    let p = err_from_is_err_and c.from_residual-in_err-saved.result c.from_residual-in_err-saved.ensures.1 in
    rw (p.1, p.2) tt

pub returns-clause-report : goal.returns-clause-report
returns-clause-report g c =
    IfOk-weaker c.report_of_outcome.result _ _
    (λ report tells. run-report c.args.choice.now (option_map (λ name. name.now) c.args.save) c.args.bytes.now c.in_ok-plan.plan c.in_ok-run.run' c.in_ok-saved.saved report
    c.in_ok-plan.ensures.planned c.in_ok-run.ensures.run c.in_ok-run.ensures.order c.in_ok-saved.ensures tells)
    c.report_of_outcome.ensures.told

pub returns-clause-stopped : goal.returns-clause-stopped
returns-clause-stopped g c =
    IfErr-weaker c.report_of_outcome.result _ _
    (λ stop none. run-stop (plan_answer c.args.choice.now (option_map (λ name. name.now) c.args.save) c.args.bytes.now) stop none) c.report_of_outcome.ensures.stopped
