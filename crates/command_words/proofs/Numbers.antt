-- The number that a text writes, by its digits and by `parse`.
use Rattle.std.proofs.Common.{◌≡◌, ◌≢◌, ℕ, ◌^◌, ◌<◌, ◌≤◌, ◌&&◌, leb, ltb, List, [], ◌∷◌, Option, None, Some, Result, Ok, Err, option_and_then, Bool, true, false, cond, length, get_or, refl, ap, sym, ◌∙◌, arith}
use Rattle.std.proofs.lemmas.Bool.{and_parts, leb-true, ltb-true, le-leb, lt-ltb}
use Rattle.std.proofs.lemmas.Str.Parse.{IsNumeralModel, numerals_by_value, tells_all_ascii_digits, tells_by_index, parse_plain, not_in_digits}
use Rattle.std.specs.Int.{IsInRange}
use Rattle.std.specs.Result.{result_ok}
use Rattle.std.specs.Str.{all_ascii_digits}
use Rattle.std.specs.Str.Parse.{ParsesUnsigned, digits_value}
use Rattle.surw_base.specs.declared.limits.TheConstants.{DEPTH}
use Rattle.command_words.specs.Number.{depth_in, depth_of, is_number, number_of}

abbrev AreDigits : List ℕ → Type 0
AreDigits text = all_ascii_digits text ≡ true

abbrev EachDigit : List ℕ → Type 0
EachDigit text = (k : ℕ) → k < length text → IsInRange 48 57 (get_or text k 0)

digits : IsNumeralModel AreDigits (digits_value 10)
digits = numerals_by_value AreDigits tells_all_ascii_digits

each_digit : IsNumeralModel EachDigit (digits_value 10)
each_digit = numerals_by_value EachDigit tells_by_index

pub digits-by-place : (text : List ℕ) → EachDigit text → AreDigits text
digits-by-place text each = digits.from text (each_digit.to text each)

pub place-by-digits : (text : List ℕ) → AreDigits text → EachDigit text
place-by-digits text all = each_digit.from text (digits.to text all)

-- what a number's text is
pub record IsNumber (text : List ℕ) : Type 0 where
  pub digits : AreDigits text
  pub some : 1 ≤ length text
  pub short : length text ≤ 20
  pub below : digits_value 10 text < 2 ^ 64

number-is : (text : List ℕ) → is_number text ≡ true → IsNumber text
number-is text is =
    let three = and_parts (all_ascii_digits text && leb 1 (length text) && leb (length text) 20) (ltb (digits_value 10 text) (2 ^ 64)) is in
    let two = and_parts (all_ascii_digits text && leb 1 (length text)) (leb (length text) 20) three.0 in
    let one = and_parts (all_ascii_digits text) (leb 1 (length text)) two.0 in
    record {
      digits = one.0;
      some = leb-true 1 (length text) one.1;
      short = leb-true (length text) 20 two.1;
      below = ltb-true (digits_value 10 text) (2 ^ 64) three.1;
    }

is-number : (text : List ℕ) → IsNumber text → is_number text ≡ true
is-number text is = λ i. is.digits i && le-leb 1 (length text) is.some i && le-leb (length text) 20 is.short i && lt-ltb (digits_value 10 text) (2 ^ 64) is.below i

by-test : (test : Bool) (n : ℕ) → (test ≡ true → ⊥) → cond test (Some n) None ≡ None
by-test true n not = absurd (not refl)
by-test false n not = refl

pub number-none : (text : List ℕ) → (IsNumber text → ⊥) → number_of text ≡ None
unfolding number_of
number-none text not = by-test (is_number text) (digits_value 10 text) (λ is. not (number-is text is))

pub number-some : (text : List ℕ) → IsNumber text → number_of text ≡ Some (digits_value 10 text)
unfolding number_of
number-some text is = ap (λ (test : Bool). cond test (Some (digits_value 10 text)) None) (is-number text is)

-- digits don't begin with a plus
no-plus : (text : List ℕ) → AreDigits text → get_or text 0 0 ≢ 43
no-plus [] all = λ same. omega (arith, same)
no-plus (first ∷ rest) all = not_in_digits digits (first ∷ rest) 43 all (λ within. omega (arith, within)) 0 (omega arith)

-- what `parse` reads of at most 20 digits
pub parsed : {E : Type 0} (text : List ℕ) (read : Result ℕ E) → AreDigits text → length text ≤ 20 → ParsesUnsigned 64 10 text read → result_ok read ≡ number_of text
parsed {E} text (Ok number) all short parses =
    let is = parse_plain digits {E = E} 64 text (Ok number) parses (no-plus text all) in
    ap Some is.1 ∙ sym (number-some text (record { digits = all; some = is.0.1; short = short; below = is.0.2 }))
parsed {E} text (Err error) all short parses =
    let not = parse_plain digits {E = E} 64 text (Err error) parses (no-plus text all) in
    sym (number-none text (λ is. not (is.digits, is.some, is.below)))

-- the depth that a text writes, by its number
by-both : (least most : Bool) (n : ℕ) → (least ≡ true → most ≡ true → ⊥) → cond (least && most) (Some n) None ≡ None
by-both true true n not = absurd (not refl refl)
by-both true false n not = refl
by-both false most n not = refl

pub depth-no-number : (text : List ℕ) → number_of text ≡ None → None ≡ depth_of text
depth-no-number text is = sym (ap (λ (number : Option ℕ). option_and_then depth_in number) is)

pub depth-none : (text : List ℕ) (n : ℕ) → number_of text ≡ Some n → (1 ≤ n → n ≤ DEPTH → ⊥) → None ≡ depth_of text
depth-none text n is not =
    sym (ap (λ (number : Option ℕ). option_and_then depth_in number) is
    ∙ by-both (leb 1 n) (leb n DEPTH) n (λ least most. not (leb-true 1 n least) (leb-true n DEPTH most)))

pub depth-some : (text : List ℕ) (n : ℕ) → number_of text ≡ Some n → 1 ≤ n → n ≤ DEPTH → Some n ≡ depth_of text
depth-some text n is least most =
    sym (ap (λ (number : Option ℕ). option_and_then depth_in number) is
    ∙ (λ i. cond (le-leb 1 n least i && le-leb n DEPTH most i) (Some n) None))
