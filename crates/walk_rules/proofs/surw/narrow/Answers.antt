use Rattle.std.proofs.Common.{◌≡◌, ◌^◌, cond, Option, None, Some, ap, sym, subst, refl, ◌∙◌, arith}
use Rattle.walk_rules.proofs.MarkedThreads.{marked-few}
use Rattle.walk_rules.proofs.NarrowThreads.{IsNarrowSet, narrow-none, narrow-some}
use Rattle.surw_base.specs.declared.limits.TheConstants.{THREADS}
use Rattle.walk_rules.specs.Seen.{is_selected, is_unselected, seen_of}
use Rattle.walk_rules.specs.Surw.{narrow}
use Rattle.walk_rules.specs.ThreadSet.{members}
use Rattle.walk_rules.proofs.surw.narrow.Goals.{After-change, In_default}
use Rattle.walk_rules.proofs.surw.narrow.Goals as goal

none-of : {A : Type 0} (o : Option A) → ((x : A) → o ≡ Some x → ⊥) → o ≡ None
none-of None never = refl
none-of (Some x) never = absurd (never x refl)

pub change-requires-clause-few : goal.change-requires-clause-few
change-requires-clause-few c =
    let few = marked-few is_unselected c.args.view.now c.unselected-narrow.ensures.threads in
    omega (arith, few, c.unselected-narrow.ensures.marked)

-- with an intended thread
one-more : (c : After-change) → IsNarrowSet (Some c.in-Some.thread) c.args.view.now c.change.new.self.bits
one-more c =
    let selected : c.is_selected.result ≡ is_selected (seen_of c.args.view.now c.in-Some.thread) =
    c.is_selected.ensures ∙ ap is_selected (c.seen_at-seen.ensures ∙ ap (λ view. seen_of view c.in-Some.thread) c.as_slice.ensures.same) in
    let bit = ap (λ marked. cond marked (2 ^ c.in-Some.thread) 0) selected in
    narrow-some c.in-Some.thread c.args.view.now c.change.new.self.bits c.unselected-narrow.ensures.threads
    (omega (arith, c.change.ensures, c.unselected-narrow.ensures.marked, bit))

pub returns-in-Some-clause-threads : goal.returns-in-Some-clause-threads
returns-in-Some-clause-threads c =
    subst (λ intended. members THREADS 0 c.change.new.self.bits ≡ narrow intended c.args.view.now) (sym c.in-Some.is)
    (one-more (goal.at.returns-in-Some-clause-threads c).After-change).threads

pub returns-in-Some-clause-few : goal.returns-in-Some-clause-few
returns-in-Some-clause-few c = (one-more (goal.at.returns-in-Some-clause-few c).After-change).few

-- without one
others : (c : In_default) → IsNarrowSet None c.args.view.now c.unselected-narrow.result.bits
others c = narrow-none c.args.view.now c.unselected-narrow.result.bits c.unselected-narrow.ensures.threads c.unselected-narrow.ensures.marked

pub returns-in_default-clause-threads : goal.returns-in_default-clause-threads
returns-in_default-clause-threads c =
    subst (λ intended. members THREADS 0 c.unselected-narrow.result.bits ≡ narrow intended c.args.view.now)
    (sym (none-of c.args.intended.now c.in_default.not-Some)) (others (goal.at.returns-in_default-clause-threads c).In_default).threads

pub returns-in_default-clause-few : goal.returns-in_default-clause-few
returns-in_default-clause-few c = (others (goal.at.returns-in_default-clause-few c).In_default).few
