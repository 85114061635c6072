use Rattle.std.proofs.lemmas.Result.{IfErr-weaker, IfOk-weaker}
use Rattle.surw_cli.specs.ReplayAnswer.{IsReplayAnswer}
use Rattle.surw_cli.proofs.Comes.{comes-of}
use Rattle.surw_cli.proofs.Outcomes.{replay-report, run-stop}
use Rattle.surw_cli.proofs.jobs.replay.report_of_gated_replay.Goals as goal

pub returns-clause-comes : goal.returns-clause-comes
returns-clause-comes g c =
    let coming = g.F.Shelf.coming c.args.shelf.now c.args.saved.now in
    comes-of (IsReplayAnswer c.args.bytes.now coming) _ _ c.report_of_outcome.result c.in_ok-plan.ensures.calm
    (IfOk-weaker c.report_of_outcome.result _ _
    (λ report tells. replay-report c.args.bytes.now coming c.in_ok-plan.plan c.in_ok-run.run' report c.in_ok-plan.ensures.planned c.in_ok-run.ensures.run tells)
    c.report_of_outcome.ensures.told)
    (IfErr-weaker c.report_of_outcome.result _ _ (λ stop none. run-stop (IsReplayAnswer c.args.bytes.now coming) stop none) c.report_of_outcome.ensures.stopped)
