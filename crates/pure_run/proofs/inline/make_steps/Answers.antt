use Rattle.std.proofs.Common.{◌≡◌, length, ap, sym, ◌∙◌, arith}
use Rattle.std.specs.List.{list_any}
use Rattle.pure_run.specs.Core.{is_due, setup_by}
use Rattle.pure_run.proofs.InlineRun.{none-due, stops-full, stops-ungranted}
use Rattle.pure_run.proofs.inline.make_steps.Goals as goal

pub loop-step-preserved : goal.loop-step-preserved
loop-step-preserved g c = record {
  valid = c.loop-step.invariant.valid;
  inline = c.make_step.ensures.inline c.args.plan.now c.loop-step.invariant.inline;
  steps = omega (arith, c.make_step.ensures.longer, c.loop-step.invariant.steps);
}

pub returns-in_default-clause-stops : goal.returns-in_default-clause-stops
returns-in_default-clause-stops g c =
    let core = c.loop-step.core in
    stops-ungranted (setup_by g.S.Draws g.O.Draws core) core
    (ap (list_any is_due) c.loop-step.invariant.inline.said ∙ none-due g.R.Routine c.loop-step.routines.items)
    (sym c.granted.ensures.granted ∙ c.in_default.is)

pub returns-clause-stops : goal.returns-clause-stops
returns-clause-stops g c =
    let core = c.loop-step.core in
    let most = ap (λ opening. opening.max_steps) c.loop-step.invariant.inline.opening in
    let full : length core.journal ≡ core.opening.max_steps = omega (arith, most, c.loop-step.invariant.steps, c.loop-step-test.false, c.loop-step.auto._step-end) in
    stops-full (setup_by g.S.Draws g.O.Draws core) core
    (ap (list_any is_due) c.loop-step.invariant.inline.said ∙ none-due g.R.Routine c.loop-step.routines.items)
    full
