-- The texts of what is watched for.
use Rattle.std.proofs.Common.{◌≡◌, ℕ, ◌+◌, ◌^◌, ◌==◌, true, false, List, [], ◌∷◌, ◌++◌, length, get_or, drop, Option, Some, None, IsSome, IfSome, codes, refl, ap, sym, ◌∙◌, arith}
use Rattle.std.proofs.lemmas.Bool.{and_from, and_parts, ltb-true, lt-ltb}
use Rattle.std.proofs.lemmas.List.{get_or-drop, length-drop, drop-drop}
use Rattle.std.proofs.lemmas.List.Elements.{All-from_recursion}
use Rattle.std.specs.Fmt.{decimal}
use Rattle.std.specs.List.{find}
use Rattle.std.specs.Str.{bytes_eq}
use Rattle.surw_base.proofs.Prefixes.{number-some, number-again}
use Rattle.surw_base.specs.Prefix.{IsLongestPrefix, HasNoPrefix}
use Rattle.surw_base.specs.Number.{IsNumberText}
use Rattle.surw_base.proofs.Searches.{found-at, read-found}
use Rattle.surw_base.proofs.Tokens.{tokens-prefix, tokens-last, no-space-decimal, value-decimal, same-bytes, bytes-same}
use Rattle.surw_base.specs.Tokens.{tokens, number_at}
use Rattle.scenario_toml.specs.declared.watch.Watch.{Watch}
use Rattle.scenario_toml.specs.declared.watch.Watch.TheVariants.{WriteAhead, LogWhole, Expect, CellEnd}
use Rattle.scenario_toml.specs.WatchText.{AreTwoNumbers, IsWatchText, IsSmall}
use Rattle.scenario_toml.specs.Texts.{is_small, watches, is_watch, watch_text, is_text_of_watch, watch_of}

-- two numbers begin with one
pub some-number : (text : List ℕ) (m n : ℕ) → HasNoPrefix IsNumberText text → AreTwoNumbers text m n → ⊥
some-number text m n none is = number-some text (32 ∷ decimal n) m is.text is.cell_below (λ r. omega (arith, r.0)) none

-- behind which stands a space and the other
pub two-numbers : (text : List ℕ) (m n v len : ℕ) → IsLongestPrefix IsNumberText text v len → AreTwoNumbers text m n
    → (v ≡ m) × (drop len text ≡ 32 ∷ decimal n)
two-numbers text m n v len prefix is = number-again text (32 ∷ decimal n) m v len is.text is.cell_below (λ r. omega (arith, r.0)) prefix

pub space-behind : (text : List ℕ) (m n v len : ℕ) → IsLongestPrefix IsNumberText text v len → AreTwoNumbers text m n → get_or text len 0 ≡ 32
space-behind text m n v len prefix is =
    let end : len + 0 ≡ len = omega arith in
    sym (ap (λ (k : ℕ). get_or text k 0) end) ∙ sym (get_or-drop len text 0 0) ∙ ap (λ (l : List ℕ). get_or l 0 0) (two-numbers text m n v len prefix is).1

pub not-at-end : (text : List ℕ) (m n v len : ℕ) → IsLongestPrefix IsNumberText text v len → AreTwoNumbers text m n → len ≡ length text → ⊥
not-at-end text m n v len prefix is end =
    omega (arith, length-drop len text, ap length (two-numbers text m n v len prefix is).1)

pub second-number : (text : List ℕ) (m n v len : ℕ) → IsLongestPrefix IsNumberText text v len → AreTwoNumbers text m n → IsNumberText (drop (len + 1) text) n
second-number text m n v len prefix is = record {
  digits = sym (drop-drop 1 len text) ∙ ap (drop 1) (two-numbers text m n v len prefix is).1;
  below = is.value_below;
}

small-test : (watch : Watch) → IsSmall watch → is_watch watch ≡ true
small-test WriteAhead small = refl
small-test LogWhole small = refl
small-test Expect small = refl
small-test (CellEnd cell value) small = and_from (is_small cell) (is_small value) (lt-ltb cell (2 ^ 64) small.0) (lt-ltb value (2 ^ 64) small.1)

test-small : (watch : Watch) → is_watch watch ≡ true → IsSmall watch
test-small WriteAhead small = tt
test-small LogWhole small = tt
test-small Expect small = tt
test-small (CellEnd cell value) small =
    let p = and_parts (is_small cell) (is_small value) small in (ltb-true cell (2 ^ 64) p.0, ltb-true value (2 ^ 64) p.1)

test-from : (text : List ℕ) (watch : Watch) → IsWatchText text watch → is_text_of_watch text watch ≡ true
test-from text watch is = and_from (bytes_eq (watch_text watch) text) (is_watch watch) (same-bytes (watch_text watch) text is.text) (small-test watch is.below)

from-test : (text : List ℕ) (watch : Watch) → is_text_of_watch text watch ≡ true → IsWatchText text watch
from-test text watch is =
    let p = and_parts (bytes_eq (watch_text watch) text) (is_watch watch) is in
    record { text = bytes-same (watch_text watch) text p.0; below = test-small watch p.1 }

-- the parts of the text with two numbers
parts : (text : List ℕ) (cell value : ℕ) → IsWatchText text (CellEnd cell value) → tokens text ≡ codes "cell_end" ∷ decimal cell ∷ decimal value ∷ []
parts text cell value is =
    ap tokens is.text
    ∙ tokens-prefix (codes "cell_end") (decimal cell ++ 32 ∷ decimal value)
    (All-from_recursion (λ b. (b == 32) ≡ false) (codes "cell_end") (refl, (refl, (refl, (refl, (refl, (refl, (refl, (refl, tt)))))))))
    ∙ ap (λ l. codes "cell_end" ∷ l) (tokens-prefix (decimal cell) (decimal value) (no-space-decimal cell is.below.0))
    ∙ ap (λ l. codes "cell_end" ∷ decimal cell ∷ l) (tokens-last (decimal value) (no-space-decimal value is.below.1))

-- what has a text is among what is looked at
among : (text : List ℕ) (watch : Watch) → IsWatchText text watch → IsSome (find (is_text_of_watch text) (watches (tokens text)))
among text WriteAhead is = found-at (is_text_of_watch text) (watches (tokens text)) 0 WriteAhead refl (test-from text WriteAhead is)
among text LogWhole is = found-at (is_text_of_watch text) (watches (tokens text)) 1 LogWhole refl (test-from text LogWhole is)
among text Expect is = found-at (is_text_of_watch text) (watches (tokens text)) 2 Expect refl (test-from text Expect is)
among text (CellEnd cell value) is =
    let first : number_at (tokens text) 1 ≡ cell = ap (λ l. number_at l 1) (parts text cell value is) ∙ value-decimal cell is.below.0 in
    let second : number_at (tokens text) 2 ≡ value = ap (λ l. number_at l 2) (parts text cell value is) ∙ value-decimal value is.below.1 in
    found-at (is_text_of_watch text) (watches (tokens text)) 3 (CellEnd (number_at (tokens text) 1) (number_at (tokens text) 2)) refl
    ((λ i. is_text_of_watch text (CellEnd (first i) (second i))) ∙ test-from text (CellEnd cell value) is)

-- so a reader of the texts answers what the search finds
pub watch-read : (text : List ℕ) (answer : Option Watch) → IfSome answer (IsWatchText text)
    → ((watch : Watch) → IsWatchText text watch → answer ≡ Some watch) → answer ≡ watch_of text
unfolding watch_of
watch-read text None found only = read-found (is_text_of_watch text) (watches (tokens text)) None tt (λ x passes. only x (from-test text x passes))
watch-read text (Some watch) found only = read-found (is_text_of_watch text) (watches (tokens text)) (Some watch) (among text watch found) (λ x passes. only x (from-test text x passes))
