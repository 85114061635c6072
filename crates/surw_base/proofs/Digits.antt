-- Digits at the front of a text, and the number that they write.
use Rattle.std.proofs.Common.{◌≡◌, ℕ, zero, suc, ◌+◌, ◌-◌, ◌*◌, ◌/◌, ◌%◌, ◌^◌, ◌<◌, ◌≤◌, List, [], ◌∷◌, ◌++◌, length, get_or, take, refl, ap, sym, subst, ◌∙◌, arith, inl, inr}
use Rattle.std.proofs.lemmas.Bool.{cases_lt}
use Rattle.std.proofs.lemmas.Fmt.{decimal_is_IsNumeral, decimal_digit, decimal_step, first_decimal}
use Rattle.std.proofs.lemmas.Int.Digits.{digits_value_more}
use Rattle.std.proofs.lemmas.List.{take_more, take-take, length-take-le, get_or-take}
use Rattle.std.proofs.lemmas.Str.Parse.{digit_at, digits_value-take-le}
use Rattle.std.proofs.lemmas.Str.{digit_value_digit}
use Rattle.std.specs.Int.{IsInRange}
use Rattle.std.specs.Fmt.{decimal}
use Rattle.std.specs.Str.Parse.{digits_value}
use Rattle.surw_base.specs.Prefix.{IsLongestPrefix, HasNoPrefix}
use Rattle.surw_base.specs.Number.{IsNumberText}

-- the first `len` bytes are the digits of `value`
pub record AreRead (text : List ℕ) (value len : ℕ) : Type 0 where
  pub digits : 0 < len → take len text ≡ decimal value
  pub start : len ≡ 0 → value ≡ 0
  pub some : 0 < len → 0 < value
  pub below : value < 2 ^ 64

-- each byte of a prefix that is a number is a digit
pub digit-prefix : (text : List ℕ) (n w k : ℕ) → n ≤ length text → IsNumberText (take n text) w → k < n → IsInRange 48 57 (get_or text k 0)
digit-prefix text n w k within is lt =
    let numeral = (decimal_is_IsNumeral w is.below).0 in
    let long : length (take n text) ≡ n = length-take-le n text within in
    let same : length (decimal w) ≡ n = sym (ap length is.digits) ∙ long in
    let digit = digit_at (decimal w) k numeral.1 (omega arith) in
    subst (IsInRange 48 57) (ap (λ (l : List ℕ). get_or l k 0) (sym is.digits) ∙ get_or-take n text k 0 lt) digit

-- a prefix that is a number has a byte
pub some-prefix : (text : List ℕ) (n w : ℕ) → n ≤ length text → IsNumberText (take n text) w → 0 < n
some-prefix text n w within is =
    let numeral = (decimal_is_IsNumeral w is.below).0 in
    let long : length (take n text) ≡ n = length-take-le n text within in
    omega (arith, numeral.0, ap length is.digits)

-- the digits that are read write their number
value-read : (text : List ℕ) (value len : ℕ) → AreRead text value len → digits_value 10 (take len text) ≡ value
value-read text value zero read = sym (read.start refl)
value-read text value (suc k) read = ap (digits_value 10) (read.digits (omega arith)) ∙ (decimal_is_IsNumeral value read.below).1

-- a longer prefix that is a number is at least what the digits read and the next one write
pub longer-prefix : (text : List ℕ) (value len n w : ℕ) → AreRead text value len → n ≤ length text → IsNumberText (take n text) w → len < n
    → value * 10 + (get_or text len 0 - 48) ≤ w
longer-prefix text value len n w read within is lt =
    let digit = digit-prefix text n w len within is lt in
    let more = digits_value_more 10 text len (omega arith) in
    let one = digit_value_digit (get_or text len 0) digit in
    let whole : digits_value 10 (take n text) ≡ w = ap (digits_value 10) is.digits ∙ (decimal_is_IsNumeral w is.below).1 in
    let short = digits_value-take-le 10 (take n text) (len + 1) (omega arith) in
    let cut : take (len + 1) (take n text) ≡ take (len + 1) text = take-take (len + 1) n text (omega arith) in
    omega (arith, more, one, whole, rw cut at short, value-read text value len read)

-- the next digit is read
pub one-more : (text : List ℕ) (value len : ℕ) → AreRead text value len → len < length text → IsInRange 48 57 (get_or text len 0)
    → 49 ≤ get_or text 0 0 → value * 10 + (get_or text len 0 - 48) < 2 ^ 64 → AreRead text (value * 10 + (get_or text len 0 - 48)) (len + 1)
one-more text value zero read lt digit first small =
    let start = read.start refl in
    let one : value * 10 + (get_or text 0 0 - 48) ≡ get_or text 0 0 - 48 = omega arith in
    let byte : 48 + (get_or text 0 0 - 48) ≡ get_or text 0 0 = omega arith in
    record {
      digits = λ _. take_more text 0 0 lt ∙ sym (ap decimal one ∙ decimal_digit (get_or text 0 0 - 48) (omega arith) ∙ ap (λ (b : ℕ). b ∷ []) byte);
      start = λ e. absurd (omega arith);
      some = λ _. omega arith;
      below = small;
    }
one-more text value (suc k) read lt digit first small =
    let b : ℕ = get_or text (suc k) 0 in
    let some : 0 < value = read.some (omega arith) in
    let m : ℕ = value * 10 + (b - 48) in
    let prefix : m / 10 ≡ value = omega arith in
    let end : 48 + m % 10 ≡ b = omega arith in
    record {
      digits = λ _. take_more text (suc k) 0 lt ∙ ap (λ (l : List ℕ). l ++ b ∷ []) (read.digits (omega arith))
          ∙ sym (decimal_step m (omega arith) small ∙ (λ i. decimal (prefix i) ++ (end i ∷ [])));
      start = λ e. absurd (omega arith);
      some = λ _. omega arith;
      below = small;
    }

-- nothing longer is a number where the next byte is no digit, or the number would be too large
pub longest : (text : List ℕ) (value len : ℕ) → AreRead text value len → 0 < len → len ≤ length text
    → ((n w : ℕ) → len < n → n ≤ length text → IsNumberText (take n text) w → ⊥) → IsLongestPrefix IsNumberText text value len
longest text value len read some within none = record {
  within = within;
  prefix = record { digits = read.digits some; below = read.below };
  longest = λ n w. none n w;
}

-- what holds of the byte at a place and not of the first byte holds past the first place
pub past-first : (P : ℕ → Type 0) (text : List ℕ) (len : ℕ) → P (get_or text len 0) → (P (get_or text 0 0) → ⊥) → 0 < len
past-first P text zero here none = absurd (none here)
past-first P text (suc k) here none = omega arith

-- no prefix of an empty text is a number
pub none-empty : (text : List ℕ) → length text < 1 → HasNoPrefix IsNumberText text
none-empty text empty n w within is = omega (arith, some-prefix text n w within is)

-- nor of one whose first byte is no digit
pub none-other : (text : List ℕ) → (IsInRange 48 57 (get_or text 0 0) → ⊥) → HasNoPrefix IsNumberText text
none-other text other n w within is = other (digit-prefix text n w 0 within is (some-prefix text n w within is))

-- a zero at the front is a number, and no longer prefix is one
pub zero-prefix : (text : List ℕ) → 0 < length text → get_or text 0 0 ≡ 48 → IsLongestPrefix IsNumberText text 0 1
zero-prefix text some first = record {
  within = some;
  prefix = record { digits = take_more text 0 0 some ∙ ap (λ (b : ℕ). b ∷ []) first ∙ sym (decimal_digit 0 (omega arith)); below = omega arith };
  longest = λ n w lt within is. elim (cases_lt 0 w) [
    | inl more ↦
        let high = first_decimal w more is.below in
        let same = ap (λ (l : List ℕ). get_or l 0 0) (sym is.digits) ∙ get_or-take n text 0 0 (omega arith) in
        omega (arith, high, same, first)
    | inr none ↦
        let e : w ≡ 0 = omega arith in
        let one = ap length (is.digits ∙ ap decimal e ∙ decimal_digit 0 (omega arith)) in
        omega (arith, one, length-take-le n text within)
  ];
}
