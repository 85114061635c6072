use Rattle.std.proofs.Common.{Some, None, ℕ, List, ◌<◌, ◌++◌, length, arith, ap, sym, subst, ◌∙◌}
use Rattle.std.proofs.lemmas.Grind.{common_steps}
use Rattle.std.proofs.lemmas.Slice.Eq.{strip_prefix_is}
use Rattle.std.proofs.lemmas.Bool.Decides.{Decides-eqb}
use Rattle.surw_base.specs.Lines.{items_text}
use Rattle.surw_base.proofs.Items.{AreRead, more-read, stuck, read-whole, read-only, behind-word, none-left}
use Rattle.surw_base.proofs.list.read_list.Goals as goal

pub returns-in-None-clause-only : goal.returns-in-None-clause-only
returns-in-None-clause-only c = λ numbers is.
    let other = strip_prefix_is Decides-eqb c.args.text.now c.args.word.now None c.in-None.ensures.cases in
    absurd (other (items_text numbers) is.spelled)

pub returns-in-None-read_item-clause-only : goal.returns-in-None-read_item-clause-only
returns-in-None-read_item-clause-only c = λ numbers is.
    let line = strip_prefix_is Decides-eqb c.args.text.now c.args.word.now (Some c.in-Some.rest) c.in-Some.ensures.cases in
    let some : 0 < length c.loop-rest.rest.now = grind (arith, common_steps) in
    absurd (stuck c.in-Some.rest.now c.loop-rest.rest.now c.loop-rest.numbers.items numbers c.loop-rest.invariant some
    (λ m behind item other. c.in-None-read_item.ensures.only m behind item other)
    (behind-word c.args.word.now c.in-Some.rest.now (items_text numbers) (sym line ∙ is.spelled)) is.below)

pub loop-rest-preserved : goal.loop-rest-preserved
loop-rest-preserved c =
    let item = c.in-Some-read_item.item in
    subst (AreRead c.in-Some.rest.now item.1.now) (sym c.in_ok-push.ensures.items)
    (more-read c.in-Some.rest.now c.loop-rest.rest.now c.loop-rest.numbers.items item.0 item.1.now c.loop-rest.invariant
    c.in-Some-read_item.ensures.found (λ m behind is other. c.in-Some-read_item.ensures.only m behind is other))

pub returns-clause-found : goal.returns-clause-found
returns-clause-found c =
    let line = strip_prefix_is Decides-eqb c.args.text.now c.args.word.now (Some c.in-Some.rest) c.in-Some.ensures.cases in
    let done = none-left c.loop-rest.rest.now (λ some. grind (arith, common_steps)) in
    record {
      spelled = line ∙ ap (λ (l : List ℕ). c.args.word.now ++ l) (read-whole c.in-Some.rest.now _ c.loop-rest.numbers.items c.loop-rest.invariant done);
      below = c.loop-rest.invariant.below;
    }

pub returns-clause-only : goal.returns-clause-only
returns-clause-only c = λ numbers is.
    let line = strip_prefix_is Decides-eqb c.args.text.now c.args.word.now (Some c.in-Some.rest) c.in-Some.ensures.cases in
    let done = none-left c.loop-rest.rest.now (λ some. grind (arith, common_steps)) in
    read-only c.in-Some.rest.now _ c.loop-rest.numbers.items numbers c.loop-rest.invariant done
    (behind-word c.args.word.now c.in-Some.rest.now (items_text numbers) (sym line ∙ is.spelled)) is.below
