use Rattle.std.proofs.Common.{◌≡◌, length}
use Rattle.run_rules.specs.Plan.{IsValidPlan}
use Rattle.pure_run.specs.Inline.{IsInline}
use Rattle.pure_run.proofs.inline.make_steps.Given as goal

abbrev pub invariant-loop-step : goal.invariant-loop-step
invariant-loop-step g l = record {
  valid : IsValidPlan l.plan;
  inline : IsInline g.R.Routine g.S.Draws g.O.Draws l.plan l.core l.routines.items;
  steps : length l.core.journal ≡ l._step;
}
