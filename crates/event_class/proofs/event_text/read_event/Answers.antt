use Rattle.std.proofs.Common.{◌≡◌, ◌∙◌, List, ℕ, ◌+◌, ◌≤◌, Some, length, take, drop, ap, sym, subst, arith}
use Rattle.std.proofs.lemmas.List.{length-take}
use Rattle.surw_base.specs.Prefix.{IsLongestPrefix, HasNoPrefix}
use Rattle.event_class.specs.Event.{AreNumbersText, IsEventText, verb_of, numbers_of}
use Rattle.event_class.proofs.Numbers.{by_place, first-three}
use Rattle.event_class.proofs.Events.{none-verb, none-numbers, longest-event}
use Rattle.event_class.proofs.Again.{printed-some, printed-again}
use Rattle.event_class.proofs.event_text.read_event.Goals as goal

pub returns-in_default : goal.returns-in_default
returns-in_default c =
    let none = none-verb c.args.text.now c.in_default.ensures.none in
    record { prefix = none; again = λ event tail is. absurd (printed-some c.args.text.now event tail is none) }

pub returns-in-None : goal.returns-in-None
returns-in-None c =
    let text = c.args.text.now in
    let form = c.in-Some.form in
    let back : c.split_at.result.1.now ≡ drop (length (verb_of form)) text =
    c.split_at.ensures.back ∙ ap (λ (l : List ℕ). drop (length l) text) c.verb-verb.ensures.verb in
    let none = none-numbers text form c.in-Some.ensures.found
    (subst (λ (k : ℕ). HasNoPrefix (AreNumbersText k) (drop (length (verb_of form)) text)) c.numbers-count.ensures.count
    (subst (HasNoPrefix (AreNumbersText c.numbers-count.result.1)) back c.in-None.ensures)) in
    record { prefix = none; again = λ event tail is. absurd (printed-some text event tail is none) }

pub returns-in-Some-read_numbers : goal.returns-in-Some-read_numbers
returns-in-Some-read_numbers c =
    let text = c.args.text.now in
    let form = c.in-Some.form in
    let made = c.with.result in
    let count = c.numbers-count.result.1 in
    let numbers = c.in-Some-read_numbers.found.0 in
    let len = c.in-Some-read_numbers.found.1 in
    let back : c.split_at.result.1.now ≡ drop (length (verb_of form)) text =
    c.split_at.ensures.back ∙ ap (λ (l : List ℕ). drop (length l) text) c.verb-verb.ensures.verb in
    let behind = subst (λ (l : List ℕ). IsLongestPrefix (AreNumbersText count) l (take count numbers) len) back c.in-Some-read_numbers.ensures in
    let long : count ≤ length numbers = omega (arith, length-take count numbers, behind.prefix.many) in
    let holds : numbers_of made ≡ take count numbers =
    c.with.ensures.numbers ∙ ap (λ (k : ℕ). take k (by_place numbers)) (sym c.numbers-count.ensures.count)
    ∙ first-three numbers count long c.numbers-count.ensures.within in
    let longest = subst (λ (verb : List ℕ). IsLongestPrefix IsEventText text made (length verb + len)) (sym c.verb-verb.ensures.verb)
    (longest-event text form made (take count numbers) len c.in-Some.ensures.found c.with.ensures.verb holds
    (subst (λ (k : ℕ). IsLongestPrefix (AreNumbersText k) (drop (length (verb_of form)) text) (take count numbers) len) c.numbers-count.ensures.count behind)) in
    record {
      prefix = longest;
      again = λ event tail is.
          let both = printed-again text event tail made _ is longest in λ i. Some (both.0 i, both.1 i);
    }
