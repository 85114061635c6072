use Rattle.std.proofs.Common.{◌≡◌, Some, IsSome, refl, ap, sym, subst, ◌∙◌}
use Rattle.seed_draws.proofs.Asked.{is-source}
use Rattle.run_rules.specs.Plan.{script_of, setup_of}
use Rattle.run_rules.specs.Run.{IsRun}
use Rattle.selected_order.proofs.KeepsOrder.{keeps-order}
use Rattle.pure_run.specs.Core.{position, setup_by, verdict_of}
use Rattle.pure_run.specs.Finish.{outcome_at}
use Rattle.pure_run.specs.Invariant.{IsKept}
use Rattle.pure_run.proofs.InlineRun.{has-some, same-setup}
use Rattle.gate_core.specs.Log.{AreOwn}
use Rattle.gate_core.proofs.Runs.{is-run, opening-is, some-of}
use Rattle.gate_core.proofs.gated.run_of.Goals as goal

pub returns-then-all_own-clause-run : goal.returns-then-all_own-clause-run
returns-then-all_own-clause-run g c =
    let plan = c.args.plan.now in
    let core = c.args.core in
    let behaviour = g.R.Routine in
    let setup = setup_of g.S.Draws g.O.Draws plan in
    let opening = opening-is g.S.Draws g.O.Draws core.opening plan g.met.S.Draws.one_is_equal g.met.O.Draws.one_is_equal (c.if-not-opened_as.ensures.0 refl) in
    let same : setup_by g.S.Draws g.O.Draws core ≡ setup = same-setup behaviour g.S.Draws g.O.Draws plan core opening in
    let some = some-of c.verdict.result c.is_none.result c.is_none.ensures c.if-is_none.false in
    let found = has-some (verdict_of (setup_by g.S.Draws g.O.Draws core) core) (subst (λ o. IsSome o) c.verdict.ensures some) in
    let is : verdict_of setup core ≡ Some found.value = sym (ap (λ s. verdict_of s core) same) ∙ found.is in
    let outcome = c.finish-run.ensures.run found.value found.is ∙ ap (λ s. outcome_at s (position core) found.value) same in
    let kept = subst (λ s. IsKept s core) same c.finish-run.ensures.kept in
    let own =
    subst (λ r. AreOwn behaviour r.journal r.words c.args.logs.now.items) outcome
    (subst (λ logs. AreOwn behaviour c.finish-run.result.journal c.finish-run.result.words logs) c.as_slice.ensures.value (c.if-all_own.ensures refl)) in
    subst (λ r. IsRun (script_of behaviour g.S.Draws g.O.Draws plan) r) (sym outcome)
    (is-run behaviour g.S.Draws g.O.Draws plan core c.args.logs.now.items c.requires.logs kept own found.value is)

pub returns-then-all_own-clause-order : goal.returns-then-all_own-clause-order
returns-then-all_own-clause-order g c =
    let plan = c.args.plan.now in
    let script = script_of g.R.Routine g.S.Draws g.O.Draws plan in
    keeps-order script _ (c.requires.valid.valid script.setup.selected script.setup.other).counted
    (is-source g.S.Draws g.met.S.Draws.below_its_bound plan.selected) (is-source g.O.Draws g.met.O.Draws.below_its_bound plan.other)
    (returns-then-all_own-clause-run g c)
