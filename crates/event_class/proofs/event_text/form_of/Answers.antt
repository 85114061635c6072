use Rattle.std.proofs.Common.{arith, subst, sym, IsTrue, nat_eq, List, ℕ}
use Rattle.std.specs.List.{starts_with}
use Rattle.event_class.proofs.Events.{place, form-at}
use Rattle.event_class.proofs.event_text.form_of.Goals as goal

pub returns-clause-none : goal.returns-clause-none
returns-clause-none c event begins =
    let form = form-at event in
    c.loop-form.invariant (place event) (omega (arith, form.within, c.loop-form-test.false))
    (subst (λ (verb : List ℕ). IsTrue (starts_with nat_eq c.args.text.now verb)) (sym form.same) begins)
