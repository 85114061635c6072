use Rattle.std.proofs.Common.{◌++◌, ap, subst, ◌∙◌}
use Rattle.std.proofs.lemmas.Result.{err_from_is_err_and}
use Rattle.scenario_toml.specs.State.{ScenarioState}
use Rattle.sha2.specs.Sha256.{sha256}
use Rattle.surw_cli.specs.MakeAnswer.{digest_line, no_choice}
use Rattle.surw_cli.specs.Planned.{IsRunOf}
use Rattle.surw_cli.proofs.jobs.make.report_of_make.Goals as goal

pub returns-in_err-steps-clause-stopped : goal.returns-in_err-steps-clause-stopped
returns-in_err-steps-clause-stopped c =
    let p = err_from_is_err_and c.from_residual-in_err-steps.result c.from_residual-in_err-steps.ensures.1 in
    rw (p.1, p.2) tt

pub returns-in_err-text-clause-stopped : goal.returns-in_err-text-clause-stopped
returns-in_err-text-clause-stopped c =
    let p = err_from_is_err_and c.from_residual-in_err-text.result c.from_residual-in_err-text.ensures.1 in
    rw (p.1, p.2) tt

pub returns-in_err-push_digest_line-clause-stopped : goal.returns-in_err-push_digest_line-clause-stopped
returns-in_err-push_digest_line-clause-stopped c =
    let p = err_from_is_err_and c.from_residual-in_err-push_digest_line.result c.from_residual-in_err-push_digest_line.ensures.1 in
    rw (p.1, p.2) tt

pub returns-clause-report : goal.returns-clause-report
returns-clause-report c =
    let run : IsRunOf c.in_ok-scenario.scenario no_choice c.in_ok-run.run' = record {
      counts = c.in_ok-counts.counts;
      counted = c.in_ok-counts.ensures.counts;
      plan = c.in_ok-plan.plan;
      planned = c.in_ok-plan.ensures.plan;
      run = c.in_ok-run.ensures.run;
      order = c.in_ok-run.ensures.order;
    } in
    record {
      outcome = c.in_ok-run.run';
      run = subst (λ (s : ScenarioState). IsRunOf s no_choice c.in_ok-run.run') c.in_ok-scenario.ensures run;
      printed =
          c.in_ok-push_digest_line.ensures
          ∙ (λ i. c.in_ok-text.ensures i ++ digest_line ((c.digest-digest.ensures ∙ ap sha256 (c.as_slice.ensures.value ∙ c.in_ok-steps.ensures)) i));
      ends = c.status_of.ensures;
    }
