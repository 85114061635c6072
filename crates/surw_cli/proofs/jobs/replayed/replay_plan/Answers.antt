use Rattle.std.proofs.Common.{List, ℕ, sym, subst}
use Rattle.std.proofs.lemmas.Result.{IfErr-weaker, err_from_is_err_and}
use Rattle.surw_base.specs.declared.limits.TheConstants.{SAVED_LIMIT}
use Rattle.surw_cli.specs.FileAnswer.{HasFile}
use Rattle.surw_cli.proofs.ReplayStops.{saved-stop, scenario-stop, unfetched-replay}
use Rattle.surw_cli.proofs.jobs.replayed.replay_plan.Goals as goal

pub returns-in_err-scenario-clause-stopped : goal.returns-in_err-scenario-clause-stopped
returns-in_err-scenario-clause-stopped g c =
    let p = err_from_is_err_and c.from_residual.result c.from_residual.ensures.1 in
    rw (p.1, p.2) (scenario-stop c.args.bytes.now _ _ c.in_err-scenario.field-0.0 c.in_err-scenario.ensures.fault)

pub returns-in-Ok-clause-stopped : goal.returns-in-Ok-clause-stopped
returns-in-Ok-clause-stopped g c =
    let held = subst (λ (bytes : List ℕ). HasFile SAVED_LIMIT (g.F.Shelf.coming c.args.shelf.now c.args.saved.now) bytes) (sym c.as_slice.ensures.value) c.in-Ok.ensures.held in
    IfErr-weaker c.plan_of_saved.result _ _
    (λ stop stopped. saved-stop c.args.bytes.now c.in_ok-scenario.scenario _ _ _ c.as_slice.result.now stop c.in_ok-scenario.ensures.ok held c.in-Ok.ensures.calm
    stopped) c.plan_of_saved.ensures.stopped

pub returns-clause-stopped : goal.returns-clause-stopped
returns-clause-stopped g c =
    unfetched-replay c.args.bytes.now c.in_ok-scenario.scenario _ _ _ c.in-Err.stop c.in_ok-scenario.ensures.ok c.in-Err.ensures.stopped
