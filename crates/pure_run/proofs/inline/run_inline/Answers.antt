use Rattle.std.proofs.Common.{[], ap, sym, subst, ◌∙◌}
use Rattle.seed_draws.proofs.Asked.{is-source}
use Rattle.run_rules.specs.Plan.{script_of}
use Rattle.run_rules.specs.Run.{IsRun}
use Rattle.selected_order.proofs.KeepsOrder.{keeps-order}
use Rattle.pure_run.specs.Core.{CoreState, position, setup_by, verdict_of}
use Rattle.pure_run.specs.Finish.{outcome_at}
use Rattle.pure_run.specs.Inline.{said_by}
use Rattle.pure_run.specs.Invariant.{IsKept}
use Rattle.pure_run.specs.Opening.{opening_of}
use Rattle.pure_run.proofs.InlineRun.{has-some, inline-first, inline-run, same-setup}
use Rattle.pure_run.proofs.inline.run_inline.Goals as goal

pub make_steps-requires-clause-inline : goal.make_steps-requires-clause-inline
make_steps-requires-clause-inline g c =
    let plan = c.args.plan.now in
    inline-first g.R.Routine g.S.Draws g.O.Draws plan c.say_first_words.new.core c.in_ok-routines.routines.items
    (c.in_ok-routines.ensures ∙ c.as_slice.ensures.value)
    (c.say_first_words.ensures
    ∙ ap (λ (core : CoreState g.row.S.Denot g.row.O.Denot). record core { words = said_by g.R.Routine c.as_slice-2.result.now }) c.in_ok-core.ensures
    ∙ ap {B = CoreState g.row.S.Denot g.row.O.Denot} (λ routines. record { opening = opening_of plan; journal = []; words = said_by g.R.Routine routines }) c.as_slice-2.ensures.value)

pub returns-clause-run : goal.returns-clause-run
returns-clause-run g c =
    let plan = c.args.plan.now in
    let core = c.make_steps.new.core in
    let same = same-setup g.R.Routine g.S.Draws g.O.Draws plan core c.make_steps.ensures.inline.opening in
    let found = has-some (verdict_of (setup_by g.S.Draws g.O.Draws core) core) c.make_steps.ensures.stops in
    let outcome = c.finish.ensures.run found.value found.is ∙ ap (λ s. outcome_at s (position core) found.value) same in
    subst (λ r. IsRun (script_of g.R.Routine g.S.Draws g.O.Draws plan) r) (sym outcome)
    (inline-run g.R.Routine g.S.Draws g.O.Draws plan core c.make_steps.new.routines.items found.value
    c.make_steps.ensures.inline (subst (λ s. IsKept s core) same c.finish.ensures.kept) (sym (ap (λ s. verdict_of s core) same) ∙ found.is))

pub returns-clause-order : goal.returns-clause-order
returns-clause-order g c =
    let plan = c.args.plan.now in
    let script = script_of g.R.Routine g.S.Draws g.O.Draws plan in
    keeps-order script _ (c.requires.valid script.setup.selected script.setup.other).counted
    (is-source g.S.Draws g.met.S.Draws.below_its_bound plan.selected) (is-source g.O.Draws g.met.O.Draws.below_its_bound plan.other)
    (returns-clause-run g c)
