-- Events at the front of a text.
use Rattle.std.proofs.Common.{◌≡◌, ℕ, ◌+◌, ◌-◌, ◌<◌, ◌≤◌, IsTrue, nat_eq, unwrap_or, List, ◌++◌, length, get_or, take, drop, refl, ap, sym, subst, ◌∙◌, arith, lit<, length-append}
use Rattle.std.proofs.lemmas.Bool.Decides.{Decides-eqb}
use Rattle.std.proofs.lemmas.List.{take-append-drop, length-take-le, take_at, length-drop, append_assoc}
use Rattle.std.proofs.lemmas.List.Prefix.{front_rest}
use Rattle.std.proofs.lemmas.Slice.Eq.{starts_is}
use Rattle.std.proofs.Math.Seq.{take-add}
use Rattle.std.specs.List.{starts_with, find, position}
use Rattle.std.specs.Str.{bytes_eq}
use Rattle.surw_base.specs.Prefix.{IsLongestPrefix, HasNoPrefix}
use Rattle.event_class.specs.declared.event.Event.{Event}
use Rattle.event_class.specs.declared.event.Event.TheVariants.{Acquire, Oldest}
use Rattle.event_class.specs.declared.event.TheConstants.{FORMS}
use Rattle.surw_base.specs.Lines.{items_text}
use Rattle.event_class.specs.Event.{AreSmall, AreNumbersText, IsEventText, verb_of, numbers_of}

-- the place of an event's kind among the forms
abbrev pub place : Event → ℕ
place event = unwrap_or (position (λ form. bytes_eq (verb_of form) (verb_of event)) FORMS) 0

-- an event's verb is that of a form
pub record IsForm (event : Event) (place : ℕ) : Type 0 where
  pub within : place < 19
  pub same : verb_of (get_or FORMS place Oldest) ≡ verb_of event

pub form-at : (event : Event) → IsForm event (place event)
form-at (Acquire l) = record { within = lit< tt; same = refl }
form-at _ = record { within = lit< tt; same = refl }

-- the form whose verb has these three bytes at its front
abbrev pub form_by : List ℕ → Event
form_by key = unwrap_or (find (λ form. bytes_eq (take 3 (verb_of form)) key) FORMS) Oldest

-- two events are of one kind
pub record AreAlike (v w : Event) : Type 0 where
  pub verb : verb_of v ≡ verb_of w
  pub many : length (numbers_of v) ≡ length (numbers_of w)

-- three bytes tell the verbs apart
by-three : (event : Event) (rest : List ℕ) → AreAlike (form_by (take 3 (verb_of event ++ rest))) event
by-three (Acquire l) rest = record { verb = refl; many = refl }
by-three _ rest = record { verb = refl; many = refl }

pub alike : (text : List ℕ) (v w : Event) (r s : List ℕ) → text ≡ verb_of v ++ r → text ≡ verb_of w ++ s → AreAlike v w
alike text v w r s one two =
    let first = subst (λ (l : List ℕ). AreAlike (form_by (take 3 l)) v) (sym one) (by-three v r) in
    let second = subst (λ (l : List ℕ). AreAlike (form_by (take 3 l)) w) (sym two) (by-three w s) in
    record { verb = sym first.verb ∙ second.verb; many = sym first.many ∙ second.many }

-- the parts of a prefix that is an event's text
pub record HasParts (text : List ℕ) (n : ℕ) (event : Event) : Type 0 where
  pub begins : text ≡ verb_of event ++ drop (length (verb_of event)) text
  pub within : length (verb_of event) ≤ n
  pub numbers : AreNumbersText (length (numbers_of event)) (take (n - length (verb_of event)) (drop (length (verb_of event)) text)) (numbers_of event)

pub parts : (text : List ℕ) (n : ℕ) (event : Event) → n ≤ length text → IsEventText (take n text) event → HasParts text n event
parts text n event within is =
    let verb = verb_of event in
    let numbers = items_text (numbers_of event) in
    let whole : text ≡ verb ++ (numbers ++ drop n text) =
    sym (take-append-drop n text) ∙ ap (λ (l : List ℕ). l ++ drop n text) is.text ∙ append_assoc verb numbers (drop n text) in
    let rest : drop (length verb) text ≡ numbers ++ drop n text = front_rest text verb (numbers ++ drop n text) whole in
    let long : n ≡ length verb + length numbers = omega (arith, length-take-le n text within, ap length is.text, length-append verb numbers) in
    let less : n - length verb ≡ length numbers = omega (arith, long) in
    record {
      begins = whole ∙ ap (λ (l : List ℕ). verb ++ l) (sym rest);
      within = omega (arith, long);
      numbers = record {
        text = ap (take (n - length verb)) rest ∙ take_at numbers (drop n text) (n - length verb) (sym less);
        many = refl;
        below = is.below;
      };
    }

-- what `starts_with` says
pub begins-true : (text verb : List ℕ) → IsTrue (starts_with nat_eq text verb) → text ≡ verb ++ drop (length verb) text
begins-true text verb is = (starts_is Decides-eqb text verb (starts_with nat_eq text verb) refl).0 is

pub true-begins : (text verb rest : List ℕ) → text ≡ verb ++ rest → IsTrue (starts_with nat_eq text verb)
true-begins text verb rest is = (starts_is Decides-eqb text verb (starts_with nat_eq text verb) refl).1 rest is

-- a text that no verb begins has no event at its front
pub none-verb : (text : List ℕ) → ((event : Event) → IsTrue (starts_with nat_eq text (verb_of event)) → ⊥) → HasNoPrefix IsEventText text
none-verb text none n w within is = none w (true-begins text (verb_of w) _ (parts text n w within is).begins)

-- the numbers of any event at the front stand behind the verb that was found
pub behind : (text : List ℕ) (form w : Event) (n : ℕ) → IsTrue (starts_with nat_eq text (verb_of form)) → n ≤ length text → IsEventText (take n text) w
    → (length (verb_of form) ≤ n)
    × AreNumbersText (length (numbers_of form)) (take (n - length (verb_of form)) (drop (length (verb_of form)) text)) (numbers_of w)
behind text form w n found within is =
    let of = parts text n w within is in
    let same = alike text w form _ _ of.begins (begins-true text (verb_of form) found) in (
      subst (λ (verb : List ℕ). length verb ≤ n) same.verb of.within,
      subst (λ (k : ℕ). AreNumbersText k (take (n - length (verb_of form)) (drop (length (verb_of form)) text)) (numbers_of w)) same.many
          (subst (λ (verb : List ℕ). AreNumbersText (length (numbers_of w)) (take (n - length verb) (drop (length verb) text)) (numbers_of w)) same.verb of.numbers),
    )

-- so no event stands there where the numbers of that verb don't
pub none-numbers : (text : List ℕ) (form : Event) → IsTrue (starts_with nat_eq text (verb_of form))
    → HasNoPrefix (AreNumbersText (length (numbers_of form))) (drop (length (verb_of form)) text) → HasNoPrefix IsEventText text
none-numbers text form found none n w within is =
    let of = behind text form w n found within is in
    none (n - length (verb_of form)) (numbers_of w) (omega (arith, length-drop (length (verb_of form)) text)) of.1

-- and where they do, their longest prefix is the event's
pub longest-event : (text : List ℕ) (form event : Event) (numbers : List ℕ) (len : ℕ) → IsTrue (starts_with nat_eq text (verb_of form))
    → verb_of event ≡ verb_of form → numbers_of event ≡ numbers
    → IsLongestPrefix (AreNumbersText (length (numbers_of form))) (drop (length (verb_of form)) text) numbers len
    → IsLongestPrefix IsEventText text event (length (verb_of form) + len)
longest-event text form event numbers len found verb holds longest =
    let size = length (verb_of form) in
    let begins = begins-true text (verb_of form) found in
    let prefix : take size text ≡ verb_of event = ap (take size) begins ∙ take_at (verb_of form) (drop size text) size refl ∙ sym verb in
    let fits : size ≤ length text = omega (arith, ap length begins, length-append (verb_of form) (drop size text)) in
    record {
      within = omega (arith, fits, longest.within, length-drop size text);
      prefix = record {
        text = take-add size len text ∙ (λ j. prefix j ++ (longest.prefix.text ∙ ap items_text (sym holds)) j);
        below = subst (λ (l : List ℕ). AreSmall l) (sym holds) longest.prefix.below;
      };
      longest = λ n w lt within is.
          let of = behind text form w n found within is in
          longest.longest (n - size) (numbers_of w) (omega (arith, of.0)) (omega (arith, length-drop size text)) of.1;
    }
