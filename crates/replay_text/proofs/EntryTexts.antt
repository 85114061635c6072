-- The entry that a line gives.
use Rattle.std.proofs.Common.{◌≡◌, ℕ, ◌^◌, ◌<◌, ◌==◌, not, Bool, true, false, List, [], ◌∷◌, ◌++◌, length, map, drop, Option, Some, None, IsSome, IfSome, slice_get, refl, ap, sym, subst, ◌∙◌, arith}
use Rattle.std.proofs.lemmas.Bool.{and_parts, and_from, ltb-true, lt-ltb}
use Rattle.std.proofs.lemmas.List.{append-nil, drop_at}
use Rattle.std.proofs.lemmas.List.Elements.{All-nil, All-cons, All-head, All-tail, All-from_recursion}
use Rattle.std.specs.List.{find, list_all, position_or_len, AllByRecursion}
use Rattle.std.specs.Fmt.{decimal}
use Rattle.std.specs.Prelude.{ltb}
use Rattle.std.specs.Str.{bytes_eq}
use Rattle.std.specs.Str.Parse.{digits_value}
use Rattle.surw_base.proofs.Prefixes.{number-prefix, number-again}
use Rattle.surw_base.proofs.Searches.{found-map, found-passes, read-found}
use Rattle.surw_base.proofs.Tokens.{NoSpace, tokens-prefix, tokens-last, no-space-decimal, value-decimal, same-bytes, bytes-same}
use Rattle.surw_base.specs.declared.limits.TheConstants.{THREADS}
use Rattle.surw_base.specs.Lines.{items_text}
use Rattle.surw_base.specs.Number.{BeginsWithNoDigit, IsNumberText}
use Rattle.surw_base.specs.Prefix.{IsLongestPrefix}
use Rattle.surw_base.specs.Tokens.{tokens}
use Rattle.event_class.proofs.Again.{printed-prefix, printed-again}
use Rattle.event_class.specs.declared.event.Event.{Event}
use Rattle.event_class.specs.declared.event.Event.TheVariants.{Acquire}
use Rattle.event_class.specs.Event.{AreSmall, IsPrinted, event_text, numbers_of, verb_of}
use Rattle.walk_rules.specs.declared.asked.Asked.{Asked}
use Rattle.replay_text.specs.EntryOf.{entries, entry_of, events, is_entry, is_entry_text}
use Rattle.replay_text.specs.SavedRun.{IsEntry}
use Rattle.replay_text.specs.SavedText.{IsEntryText, entry_text}

-- the tests tell what fits
numbers-test : (ns : List ℕ) → AreSmall ns → list_all (λ n. ltb n (2 ^ 64)) ns ≡ true
numbers-test [] all = refl
numbers-test (n ∷ ns) all =
    let P : ℕ → Type 0 = λ m. m < 2 ^ 64 in
    and_from (ltb n (2 ^ 64)) (list_all (λ m. ltb m (2 ^ 64)) ns) (lt-ltb n (2 ^ 64) (All-head P n ns all)) (numbers-test ns (All-tail P n ns all))

test-numbers : (ns : List ℕ) → list_all (λ n. ltb n (2 ^ 64)) ns ≡ true → AreSmall ns
test-numbers [] is = All-nil (λ m. m < 2 ^ 64)
test-numbers (n ∷ ns) is =
    let p = and_parts (ltb n (2 ^ 64)) (list_all (λ m. ltb m (2 ^ 64)) ns) is in
    All-cons (λ m. m < 2 ^ 64) n ns (ltb-true n (2 ^ 64) p.0) (test-numbers ns p.1)

test-from : (line : List ℕ) (entry : Asked) → IsEntryText line entry → is_entry_text line entry ≡ true
test-from line entry is =
    and_from (bytes_eq (entry_text entry) line) (is_entry entry) (same-bytes (entry_text entry) line is.spelled)
    (and_from (ltb entry.thread THREADS) (list_all (λ n. ltb n (2 ^ 64)) (numbers_of entry.event)) (lt-ltb entry.thread THREADS is.fits.thread)
    (numbers-test (numbers_of entry.event) is.fits.numbers))

from-test : (line : List ℕ) (entry : Asked) → is_entry_text line entry ≡ true → IsEntryText line entry
from-test line entry is =
    let p = and_parts (bytes_eq (entry_text entry) line) (is_entry entry) is in
    let q = and_parts (ltb entry.thread THREADS) (list_all (λ n. ltb n (2 ^ 64)) (numbers_of entry.event)) p.1 in
    record {
      spelled = bytes-same (entry_text entry) line p.0;
      fits = record { thread = ltb-true entry.thread THREADS q.0; numbers = test-numbers (numbers_of entry.event) q.1 };
    }

-- no verb has a space
abbrev unspaced : List ℕ → Bool
unspaced bytes = list_all (λ b. not (b == 32)) bytes

plain : (bytes : List ℕ) → unspaced bytes ≡ true → AllByRecursion (λ b. (b == 32) ≡ false) bytes
plain [] is = tt
plain (b ∷ bs) is = let p = and_parts (not (b == 32)) (unspaced bs) is in (grind (arith, p.0), plain bs p.1)

verb-unspaced : (event : Event) → unspaced (verb_of event) ≡ true
verb-unspaced (Acquire l) = refl
verb-unspaced _ = refl

verb-plain : (event : Event) → NoSpace (verb_of event)
verb-plain event = All-from_recursion (λ b. (b == 32) ≡ false) (verb_of event) (plain (verb_of event) (verb-unspaced event))

-- the tokens of an entry's text
number-parts : (verb ns : List ℕ) → NoSpace verb → AreSmall ns → tokens (verb ++ items_text ns) ≡ verb ∷ map decimal ns
number-parts verb [] none all = ap tokens (append-nil verb) ∙ tokens-last verb none
number-parts verb (n ∷ ns) none all =
    let P : ℕ → Type 0 = λ m. m < 2 ^ 64 in
    tokens-prefix verb (decimal n ++ items_text ns) none
    ∙ ap (λ l. verb ∷ l) (number-parts (decimal n) ns (no-space-decimal n (All-head P n ns all)) (All-tail P n ns all))

values-again : (ns : List ℕ) → AreSmall ns → map (digits_value 10) (map decimal ns) ≡ ns
values-again [] all = refl
values-again (n ∷ ns) all =
    let P : ℕ → Type 0 = λ m. m < 2 ^ 64 in
    λ i. value-decimal n (All-head P n ns all) i ∷ values-again ns (All-tail P n ns all) i

entry-parts : (entry : Asked) → IsEntry entry → tokens (entry_text entry) ≡ decimal entry.thread ∷ verb_of entry.event ∷ map decimal (numbers_of entry.event)
entry-parts entry fits =
    tokens-prefix (decimal entry.thread) (event_text entry.event) (no-space-decimal entry.thread (omega (arith, fits.thread)))
    ∙ ap (λ l. decimal entry.thread ∷ l) (number-parts (verb_of entry.event) (numbers_of entry.event) (verb-plain entry.event) fits.numbers)

-- the entries that they make
entries-again : (entry : Asked) → IsEntry entry
    → entries (tokens (entry_text entry)) ≡ map (λ event. record { thread = entry.thread; event = event }) (events (numbers_of entry.event))
entries-again entry fits =
    ap entries (entry-parts entry fits)
    ∙ (λ i. map (λ event. record { thread = value-decimal entry.thread (omega (arith, fits.thread)) i; event = event }) (events (values-again (numbers_of entry.event) fits.numbers i)))

-- the place of an event among those of its numbers
abbrev place : Event → ℕ
place event = position_or_len (λ other. bytes_eq (verb_of other) (verb_of event)) (events (numbers_of event))

event-at : (event : Event) → slice_get (events (numbers_of event)) (place event) ≡ Some event
event-at (Acquire l) = refl
event-at _ = refl

-- so the entry is among them
found : (line : List ℕ) (entry : Asked) → IsEntryText line entry → IsSome (find (is_entry_text line) (entries (tokens line)))
found line entry is =
    subst (λ es. IsSome (find (is_entry_text line) es)) (sym (ap (λ l. entries (tokens l)) is.spelled ∙ entries-again entry is.fits))
    (found-map (is_entry_text line) (λ event. record { thread = entry.thread; event = event }) (events (numbers_of entry.event)) (place entry.event) entry.event
    (event-at entry.event) (test-from line entry is))

-- a reader of entries answers the one that the line gives
pub entry-read : (line : List ℕ) (answer : Option Asked) → IfSome answer (IsEntryText line)
    → ((entry : Asked) → IsEntryText line entry → answer ≡ Some entry) → answer ≡ entry_of line
unfolding entry_of
entry-read line None made only =
    read-found (is_entry_text line) (entries (tokens line)) None tt (λ entry passes. only entry (from-test line entry passes))
entry-read line (Some entry) made only =
    read-found (is_entry_text line) (entries (tokens line)) (Some entry) (found line entry made) (λ other passes. only other (from-test line other passes))

pub none-read : (line : List ℕ) → ((entry : Asked) → IsEntryText line entry → ⊥) → None ≡ entry_of line
none-read line none = entry-read line None tt (λ entry is. absurd (none entry is))

-- what stands behind the first thread of a line is the same
pub same-front : (line : List ℕ) (t u : ℕ) (r s : List ℕ) → t < THREADS → u < THREADS → line ≡ decimal t ++ 32 ∷ r → line ≡ decimal u ++ 32 ∷ s → (t ≡ u) × (r ≡ s)
same-front line t u r s below small first second =
    let space : (l : List ℕ) → BeginsWithNoDigit (32 ∷ l) = λ l digit. omega (arith, digit) in
    let prefix = subst (λ (l : List ℕ). IsLongestPrefix IsNumberText l t (length (decimal t))) (sym first) (number-prefix t (32 ∷ r) (omega (arith, below)) (space r)) in
    let again = number-again line (32 ∷ s) u t (length (decimal t)) second (omega (arith, small)) (space s) prefix in
    let behind : drop (length (decimal t)) line ≡ 32 ∷ r = ap (drop (length (decimal t))) first ∙ drop_at (decimal t) (32 ∷ r) (length (decimal t)) refl in
    (again.0, ap (drop 1) (sym behind ∙ again.1))

-- a whole event's text before the end of the text
pub whole-event : (text : List ℕ) (event : Event) → text ≡ event_text event → AreSmall (numbers_of event) → IsPrinted text event []
whole-event text event is small = record {
  text = is ∙ sym (append-nil (event_text event));
  below = small;
  apart = λ digit. omega (arith, digit);
}

same-event : (v w : Event) → AreSmall (numbers_of v) → AreSmall (numbers_of w) → event_text v ≡ event_text w → v ≡ w
same-event v w small fits is =
    let prefix = printed-prefix (event_text v) v [] (whole-event (event_text v) v refl small) in
    (printed-again (event_text v) w [] v (length (event_text v)) (whole-event (event_text v) w is fits) prefix).0

-- a line is the text of one entry
same-entry : (line : List ℕ) (v w : Asked) → IsEntryText line v → IsEntryText line w → v ≡ w
same-entry line v w is other =
    let both = same-front line v.thread w.thread (event_text v.event) (event_text w.event) is.fits.thread other.fits.thread is.spelled other.spelled in
    let event = same-event v.event w.event is.fits.numbers other.fits.numbers both.1 in
    λ i. record { thread = both.0 i; event = event i }

-- the line of an entry gives it
pub entry-again : (line : List ℕ) (entry : Asked) → IsEntryText line entry → entry_of line ≡ Some entry
entry-again line entry is = sym (entry-read line (Some entry) is (λ other is_other. ap Some (same-entry line entry other is is_other)))

-- and a line that gives an entry is its text
pub given-entry : (line : List ℕ) (entry : Asked) → entry_of line ≡ Some entry → IsEntryText line entry
unfolding entry_of
given-entry line entry is = from-test line entry (found-passes (is_entry_text line) (entries (tokens line)) entry is)
