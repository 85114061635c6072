-- An event that is printed and not followed by a digit is the longest prefix, and so is read again.
use Rattle.std.proofs.Common.{◌≡◌, ℕ, ◌+◌, ◌^◌, ◌<◌, List, [], ◌∷◌, ◌++◌, length, get_or, take, drop, refl, ap, sym, subst, ◌∙◌, arith, add-zero}
use Rattle.std.proofs.lemmas.List.{append-nil, append_assoc, drop-drop, drop_at, get_or-drop, append_cancel_left, nil_from_length, length-take-le, length-drop}
use Rattle.std.proofs.lemmas.List.Prefix.{front_rest}
use Rattle.std.proofs.lemmas.List.Elements.{All-head, All-tail, All-nil}
use Rattle.std.specs.Fmt.{decimal}
use Rattle.surw_base.proofs.Prefixes.{BeginsWithNoDigit, number-prefix, number-again, longest-length}
use Rattle.surw_base.specs.Prefix.{IsLongestPrefix, HasNoPrefix}
use Rattle.surw_base.specs.Number.{IsNumberText}
use Rattle.event_class.specs.declared.event.Event.{Event}
use Rattle.event_class.specs.declared.event.Event.TheVariants.{Acquire, Release, Load, Store, Add, SwapIf, Find, Claim, Fill, Read, Write, Oldest, Stamp, Flush, Reserve, Put, Mark, Durable, Check}
use Rattle.surw_base.specs.Lines.{items_text}
use Rattle.event_class.specs.Event.{AreSmall, AreNumbersText, IsEventText, IsPrinted, verb_of, numbers_of, event_text}
use Rattle.event_class.proofs.Numbers.{one-more}
use Rattle.event_class.proofs.Events.{alike, form_by, longest-event, true-begins}

-- numbers that are not followed by a digit begin without one
no-digit : (ns tail : List ℕ) → BeginsWithNoDigit tail → BeginsWithNoDigit (items_text ns ++ tail)
no-digit [] tail other = other
no-digit (n ∷ ns) tail other = λ digit. omega (arith, digit)

-- the longest prefix of some numbers grows to that of all
numbers-from : (text all done todo tail : List ℕ) (i count len : ℕ) → AreSmall todo → BeginsWithNoDigit tail → done ++ todo ≡ all → length all ≡ count
    → drop len text ≡ items_text todo ++ tail → IsLongestPrefix (AreNumbersText i) text done len
    → (n : ℕ) × IsLongestPrefix (AreNumbersText count) text all n
numbers-from text all done [] tail i count len small other whole many rest longest =
    let same : done ≡ all = sym (append-nil done) ∙ whole in
    let k : i ≡ count = omega (arith, longest.prefix.many, ap length same, many) in (
      len,
      subst (λ (l : List ℕ). IsLongestPrefix (AreNumbersText count) text l len) same
          (subst (λ (m : ℕ). IsLongestPrefix (AreNumbersText m) text done len) k longest),
    )
numbers-from text all done (v ∷ vs) tail i count len small other whole many rest longest =
    let P : ℕ → Type 0 = λ m. m < 2 ^ 64 in
    let after = items_text vs ++ tail in
    let behind : drop len text ≡ 32 ∷ (decimal v ++ after) =
    rest ∙ ap (λ (l : List ℕ). 32 ∷ l) (append_assoc (decimal v) (items_text vs) tail) in
    let room : len < length text =
    omega (arith, ap length behind, length-drop len text) in
    let space : get_or text len 0 ≡ 32 = sym (get_or-drop len text 0 0 ∙ ap (λ (k : ℕ). get_or text k 0) (add-zero len)) ∙ ap (λ (l : List ℕ). get_or l 0 0) behind in
    let digits : drop (len + 1) text ≡ decimal v ++ after = sym (drop-drop 1 len text) ∙ ap (drop 1) behind in
    let number = subst (λ (l : List ℕ). IsLongestPrefix IsNumberText l v (length (decimal v))) (sym digits)
    (number-prefix v after (All-head P v vs small) (no-digit vs tail other)) in
    let more = one-more text done i len v (length (decimal v)) longest room space number in
    numbers-from text all (done ++ v ∷ []) vs tail (i + 1) count (len + (1 + length (decimal v))) (All-tail P v vs small) other
    (append_assoc done (v ∷ []) vs ∙ whole) many
    ((let e : len + (1 + length (decimal v)) ≡ (len + 1) + length (decimal v) = omega arith in ap (λ (k : ℕ). drop k text) e)
    ∙ sym (drop-drop (length (decimal v)) (len + 1) text) ∙ ap (drop (length (decimal v))) digits ∙ drop_at (decimal v) after (length (decimal v)) refl)
    more

-- no number at all is a prefix
none-yet : (text : List ℕ) → IsLongestPrefix (AreNumbersText 0) text [] 0
none-yet text = record {
  within = omega arith;
  prefix = record { text = refl; many = refl; below = All-nil (λ (m : ℕ). m < 2 ^ 64) };
  longest = λ n ws lt within is.
      omega (arith, length-take-le n text within, ap length is.text, ap (λ (l : List ℕ). length (items_text l)) (nil_from_length ws is.many));
}

-- numbers begin without a digit
starts-none : (ns : List ℕ) → BeginsWithNoDigit (items_text ns)
starts-none [] digit = omega (arith, digit)
starts-none (n ∷ ns) digit = omega (arith, digit)

-- as many numbers with one text are the same
same-numbers : (us vs : List ℕ) → AreSmall us → AreSmall vs → length us ≡ length vs → items_text us ≡ items_text vs → us ≡ vs
same-numbers [] [] small fits many is = refl
same-numbers [] (v ∷ vs) small fits many is = absurd (omega (arith, many))
same-numbers (u ∷ us) [] small fits many is = absurd (omega (arith, many))
same-numbers (u ∷ us) (v ∷ vs) small fits many is =
    let P : ℕ → Type 0 = λ m. m < 2 ^ 64 in
    let digits : decimal u ++ items_text us ≡ decimal v ++ items_text vs = ap (drop 1) is in
    let both = number-again (decimal u ++ items_text us) (items_text vs) v u (length (decimal u)) digits (All-head P v vs fits) (starts-none vs)
    (number-prefix u (items_text us) (All-head P u us small) (starts-none us)) in
    let rest : items_text us ≡ items_text vs = sym (drop_at (decimal u) (items_text us) (length (decimal u)) refl) ∙ both.1 in
    let more = same-numbers us vs (All-tail P u us small) (All-tail P v vs fits) (omega (arith, many)) rest in
    λ i. both.0 i ∷ more i

-- an event of the kind with these numbers
abbrev made : Event → List ℕ → Event
made (Acquire _) ns = Acquire (get_or ns 0 0)
made (Release _) ns = Release (get_or ns 0 0)
made (Load _) ns = Load (get_or ns 0 0)
made (Store _ _) ns = Store (get_or ns 0 0) (get_or ns 1 0)
made (Add _ _) ns = Add (get_or ns 0 0) (get_or ns 1 0)
made (SwapIf _ _ _) ns = SwapIf (get_or ns 0 0) (get_or ns 1 0) (get_or ns 2 0)
made (Find _) ns = Find (get_or ns 0 0)
made (Claim _) ns = Claim (get_or ns 0 0)
made (Fill _ _) ns = Fill (get_or ns 0 0) (get_or ns 1 0)
made (Read _) ns = Read (get_or ns 0 0)
made (Write _ _ _) ns = Write (get_or ns 0 0) (get_or ns 1 0) (get_or ns 2 0)
made Oldest ns = Oldest
made (Stamp _) ns = Stamp (get_or ns 0 0)
made (Flush _) ns = Flush (get_or ns 0 0)
made Reserve ns = Reserve
made (Put _ _) ns = Put (get_or ns 0 0) (get_or ns 1 0)
made (Mark _) ns = Mark (get_or ns 0 0)
made Durable ns = Durable
made (Check _ _) ns = Check (get_or ns 0 0) (get_or ns 1 0)

made-again : (event : Event) → made (form_by (take 3 (verb_of event))) (numbers_of event) ≡ event
made-again (Acquire l) = refl
made-again _ = refl

-- verb and numbers tell the event
same-event : (v w : Event) → verb_of v ≡ verb_of w → numbers_of v ≡ numbers_of w → v ≡ w
same-event v w verb numbers = sym (made-again v) ∙ (λ i. made (form_by (take 3 (verb i))) (numbers i)) ∙ made-again w

-- two events of one text are the same
same-text : (v w : Event) → AreSmall (numbers_of v) → AreSmall (numbers_of w) → event_text v ≡ event_text w → v ≡ w
same-text v w small fits is =
    let kind = alike (event_text v) v w (items_text (numbers_of v)) (items_text (numbers_of w)) refl is in
    let numbers = append_cancel_left (verb_of v) (items_text (numbers_of v)) (items_text (numbers_of w))
    (is ∙ ap (λ (verb : List ℕ). verb ++ items_text (numbers_of w)) (sym kind.verb)) in
    same-event v w kind.verb (same-numbers (numbers_of v) (numbers_of w) small fits kind.many numbers)

-- an event that is printed is the longest prefix
pub printed-prefix : (text : List ℕ) (event : Event) (tail : List ℕ) → IsPrinted text event tail → IsLongestPrefix IsEventText text event (length (event_text event))
printed-prefix text event tail is =
    let verb = verb_of event in
    let ns = numbers_of event in
    let begins : text ≡ verb ++ (items_text ns ++ tail) = is.text ∙ append_assoc verb (items_text ns) tail in
    let rest : drop (length verb) text ≡ items_text ns ++ tail = front_rest text verb (items_text ns ++ tail) begins in
    let numbers = numbers-from (drop (length verb) text) ns [] ns tail 0 (length ns) 0 is.below is.apart refl refl rest (none-yet (drop (length verb) text)) in
    let whole = longest-event text event event ns numbers.0 (true-begins text verb (items_text ns ++ tail) begins) refl refl numbers.1 in
    let long : length verb + numbers.0 ≡ length (event_text event) =
    sym (length-take-le (length verb + numbers.0) text whole.within) ∙ ap length whole.prefix.text in
    subst (IsLongestPrefix IsEventText text event) long whole

-- so such a text has a prefix
pub printed-some : (text : List ℕ) (event : Event) (tail : List ℕ) → IsPrinted text event tail → HasNoPrefix IsEventText text → ⊥
printed-some text event tail is none =
    let prefix = printed-prefix text event tail is in
    none (length (event_text event)) event prefix.within prefix.prefix

-- and its longest prefix is that event, with its length
pub printed-again : (text : List ℕ) (event : Event) (tail : List ℕ) (v : Event) (len : ℕ) → IsPrinted text event tail
    → IsLongestPrefix IsEventText text v len → (v ≡ event) × (len ≡ length (event_text event))
printed-again text event tail v len is longest =
    let there = printed-prefix text event tail is in
    let long = longest-length IsEventText text v event len (length (event_text event)) longest there in
    let same = sym longest.prefix.text ∙ ap (λ (n : ℕ). take n text) long ∙ there.prefix.text in
    (same-text v event longest.prefix.below is.below same, long)

-- what is left behind it is the rest
pub printed-rest : (text : List ℕ) (event : Event) (tail : List ℕ) → IsPrinted text event tail → drop (length (event_text event)) text ≡ tail
printed-rest text event tail is = front_rest text (event_text event) tail is.text
