use Rattle.std.proofs.Common.{[], ◌∷◌, ap, sym, ◌∙◌}
use Rattle.event_class.specs.declared.pickable.Pickable.TheVariants.{Every}
use Rattle.run_rules.specs.Plan.{script_of}
use Rattle.pure_run.specs.Profile.{counts_made, profile_script}
use Rattle.pure_run.proofs.ProfileVerdicts.{limit-step, no-other, outcome-threads, outcome-verdict}
use Rattle.pure_run.proofs.profiling.profile.Goals as goal

pub returns-in-Ended-clause-counts : goal.returns-in-Ended-clause-counts
returns-in-Ended-clause-counts g c =
    let run = c.in_ok-run.run' in
    let script = script_of g.R.Routine g.S.Draws g.O.Draws c.args.plan.now in
    let threads = outcome-threads (profile_script script c.args.seed) run c.in_ok-run.ensures in
    record {
      ends = record { outcome = run; run = c.in_ok-run.ensures; verdict = sym c.verdict.ensures ∙ c.in-Ended.is };
      selected_made = c.counts_of.ensures.selected ∙ ap (counts_made script.setup.selection run.journal) threads;
      all_made = c.counts_of.ensures.all ∙ ap (counts_made (Every ∷ []) run.journal) threads;
    }

pub returns-in-StepLimit-clause-stopped : goal.returns-in-StepLimit-clause-stopped
returns-in-StepLimit-clause-stopped g c =
    let run = c.in_ok-run.run' in
    let script = script_of g.R.Routine g.S.Draws g.O.Draws c.args.plan.now in
    record {
      outcome = run;
      run = c.in_ok-run.ensures;
      verdict = limit-step script.setup.max_steps run.verdict c.in-StepLimit.step
          (outcome-verdict script c.args.seed run c.in_ok-run.ensures) (sym c.verdict.ensures ∙ c.in-StepLimit.is);
    }

pub unreachable-requires : goal.unreachable-requires
unreachable-requires g c =
    let run = c.in_ok-run.run' in
    let script = script_of g.R.Routine g.S.Draws g.O.Draws c.args.plan.now in
    no-other script.setup.max_steps run.verdict (outcome-verdict script c.args.seed run c.in_ok-run.ensures)
    (λ is. c.in_default.not-Ended (c.verdict.ensures ∙ is))
    (λ step is. c.in_default.not-StepLimit step (c.verdict.ensures ∙ is))
    (λ step is. c.in_default.not-Deadlock step (c.verdict.ensures ∙ is))
