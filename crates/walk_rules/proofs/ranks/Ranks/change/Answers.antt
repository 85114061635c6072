use Rattle.std.proofs.Common.{◌≡◌, ◌+◌, ◌<◌, length, get_or, ap, sym, subst, ◌∙◌, arith}
use Rattle.walk_rules.specs.Ranked.{Ranked}
use Rattle.walk_rules.proofs.StepChanges.{IsChangedTo, changed-all, changed-first, changed-fresh, changed-here, changed-other}
use Rattle.walk_rules.proofs.ranks.Ranks.change.Goals as goal
use Rattle.walk_rules.proofs.ranks.Ranks.change.Goals.{then-deref-place, else-deref-place}

pub loop-place-init : goal.loop-place-init
loop-place-init c = changed-first _ _ _ c.requires.drawn c.requires.fresh

pub loop-place-preserved : goal.loop-place-preserved
loop-place-preserved c =
    let items : c.deref.result.now ≡ c.args.self.now.changes = c.deref.ensures.0 ∙ ap (λ (r : Ranked). r.changes) c.self-in-loop-place.view_is
    ∙ c.loop-place.invariant.points in
    let point : get_or c.args.self.now.changes c.loop-place.place 0 ≡ get_or c.deref.result.now c.loop-place.place 0 =
    ap (λ l. get_or l c.loop-place.place 0) (sym items) in
    let lt : c.loop-place.place < length c.args.self.now.changes =
    omega (arith, c.loop-place-test.true, c.len-place-end.ensures.value, ap (λ (r : Ranked). length r.changes) c.self.view_is) in
    elim c.if-deref-place.branch [
      | then-deref-place w ↦
          subst (λ s. IsChangedTo c.args.step c.args.view.now c.args.self.now s (c.loop-place.place + 1)) (sym w.self-is)
          (changed-here c.args.step c.args.view.now c.args.self.now c.loop-place.self _ c.loop-place.place _ c.loop-place.invariant lt
          (point ∙ w.if-deref-place.true ∙ c.from.ensures)
          w.highest-thread.ensures.highest w.give.ensures.threads w.give.ensures.changes w.give.ensures.priorities)
      | else-deref-place w ↦
          subst (λ s. IsChangedTo c.args.step c.args.view.now c.args.self.now s (c.loop-place.place + 1)) (sym w.self-is)
          (changed-other c.args.step c.args.view.now c.args.self.now c.loop-place.self c.loop-place.place c.loop-place.invariant lt
          (λ e. w.if-deref-place.false (sym point ∙ e ∙ sym c.from.ensures)))
    ]

pub returns-clause-priorities : goal.returns-clause-priorities
returns-clause-priorities c =
    changed-all _ _ _ _ _ c.loop-place.invariant
    (omega (arith, c.loop-place-test.false, c.len-place-end.ensures.value, ap (λ (r : Ranked). length r.changes) c.self.view_is))

pub returns-clause-fresh : goal.returns-clause-fresh
returns-clause-fresh c =
    changed-fresh _ _ _ _ _ c.loop-place.invariant
    (omega (arith, c.loop-place-test.false, c.len-place-end.ensures.value, ap (λ (r : Ranked). length r.changes) c.self.view_is))
