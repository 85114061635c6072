use Rattle.std.proofs.Common.{◌≡◌, ◌<◌, Bool, Option, None, Some, ap, sym, subst, refl, ◌∙◌}
use Rattle.surw_base.specs.declared.limits.TheConstants.{STEPS}
use Rattle.walk_rules.specs.Strategies.{asked_list}
use Rattle.walk_rules.specs.Walk.{AsksAble}
use Rattle.pure_run.specs.Decision.{is_drawn_at, pick_by, walk_then}
use Rattle.pure_run.proofs.Stops.{stop-none, stop-undrawn}
use Rattle.pure_run.proofs.running.Running.decide.Goals as goal

none-of : {A : Type 0} (o : Option A) → ((x : A) → o ≡ Some x → ⊥) → o ≡ None
none-of None never = refl
none-of (Some x) never = absurd (never x refl)

pub returns-in-Some-clause-walk : goal.returns-in-Some-clause-walk
returns-in-Some-clause-walk g c =
    sym (ap (λ (drawn : Bool). walk_then drawn (pick_by g.S.Draws g.O.Draws c.args.self.now) c.args.self.now.walk)
    (ap is_drawn_at c.stop-in-Some.ensures
    ∙ stop-undrawn c.args.history.now c.args.self.now c.in-Some.verdict (sym c.stop.ensures ∙ c.in-Some.is)))

pub pick-requires-clause-room : goal.pick-requires-clause-room
pick-requires-clause-room g c =
    let can = stop-none c.args.history.now c.args.self.now c.requires.made (sym c.stop.ensures ∙ none-of c.stop.result c.in_default.not-Some) in
    subst (λ n. n < STEPS) (sym c.len-step.ensures) can.room

pub pick-requires-clause-able : goal.pick-requires-clause-able
pick-requires-clause-able g c = (stop-none c.args.history.now c.args.self.now c.requires.made (sym c.stop.ensures ∙ none-of c.stop.result c.in_default.not-Some)).able

pub pick-requires-clause-asked : goal.pick-requires-clause-asked
pick-requires-clause-asked g c =
    let can = stop-none c.args.history.now c.args.self.now c.requires.made (sym c.stop.ensures ∙ none-of c.stop.result c.in_default.not-Some) in
    subst (λ n. AsksAble (asked_list c.args.self.now.walk.rule) n c.args.self.now.view) (sym c.len-step.ensures) can.asked
