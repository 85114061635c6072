-- A number that is printed and not followed by a digit is the longest prefix, and so is read again.
use Rattle.std.proofs.Common.{◌≡◌, ℕ, ◌^◌, ◌<◌, List, [], ◌∷◌, ◌++◌, length, get_or, take, drop, refl, ap, sym, subst, ◌∙◌, arith, inl, inr, length-append}
use Rattle.std.proofs.lemmas.Bool.{cases_lt}
use Rattle.std.proofs.lemmas.Fmt.{decimal_injective}
use Rattle.std.proofs.lemmas.List.{take-append-drop, take-append-le, take_all}
use Rattle.std.specs.Fmt.{decimal}
use Rattle.std.specs.Int.{IsInRange}
use Rattle.surw_base.proofs.Digits.{digit-prefix}
use Rattle.surw_base.specs.Prefix.{IsLongestPrefix, HasNoPrefix}
use Rattle.surw_base.specs.Number.{IsNumberText}
pub use Rattle.surw_base.specs.Number.{BeginsWithNoDigit}

-- the longest prefix has one length
pub longest-length : {V : Type 0} (IsTextOf : List ℕ → V → Type 0) (text : List ℕ) (v w : V) (m n : ℕ)
    → IsLongestPrefix IsTextOf text v m → IsLongestPrefix IsTextOf text w n → m ≡ n
longest-length IsTextOf text v w m n a b = elim (cases_lt m n) [
  | inl less ↦ absurd (a.longest n w less b.within b.prefix)
  | inr other ↦ elim (cases_lt n m) [
    | inl more ↦ absurd (b.longest m v more a.within a.prefix)
    | inr same ↦ omega arith
  ]
]

-- the text is its longest prefix and what is left
pub prefix-rest : (text : List ℕ) (v len : ℕ) → IsLongestPrefix IsNumberText text v len → text ≡ decimal v ++ drop len text
prefix-rest text v len is = sym (take-append-drop len text) ∙ ap (λ (l : List ℕ). l ++ drop len text) is.prefix.digits

prefix-of-append : (prefix tail : List ℕ) → take (length prefix) (prefix ++ tail) ≡ prefix
prefix-of-append prefix tail = take-append-le (length prefix) prefix tail (omega arith) ∙ take_all (length prefix) prefix (omega arith)

byte-behind : (prefix tail : List ℕ) → get_or (prefix ++ tail) (length prefix) 0 ≡ get_or tail 0 0
byte-behind [] tail = refl
byte-behind (x ∷ xs) tail = byte-behind xs tail

rest-of-append : (prefix tail : List ℕ) → drop (length prefix) (prefix ++ tail) ≡ tail
rest-of-append [] tail = refl
rest-of-append (x ∷ xs) tail = rest-of-append xs tail

-- a number before something that doesn't begin with a digit is the longest prefix
pub number-prefix : (m : ℕ) (tail : List ℕ) → m < 2 ^ 64 → BeginsWithNoDigit tail
    → IsLongestPrefix IsNumberText (decimal m ++ tail) m (length (decimal m))
number-prefix m tail small other = record {
  within = omega (arith, length-append (decimal m) tail);
  prefix = record { digits = prefix-of-append (decimal m) tail; below = small };
  longest = λ n w lt within is.
      other (subst (IsInRange 48 57) (byte-behind (decimal m) tail) (digit-prefix (decimal m ++ tail) n w (length (decimal m)) within is lt));
}

-- so the longest prefix of such a text is that number, and what is left is the rest
pub number-again : (text tail : List ℕ) (m v len : ℕ) → text ≡ decimal m ++ tail → m < 2 ^ 64 → BeginsWithNoDigit tail
    → IsLongestPrefix IsNumberText text v len → (v ≡ m) × (drop len text ≡ tail)
number-again text tail m v len is small other prefix =
    let there = subst (λ (t : List ℕ). IsLongestPrefix IsNumberText t m (length (decimal m))) (sym is) (number-prefix m tail small other) in
    let long = longest-length IsNumberText text v m len (length (decimal m)) prefix there in (
      decimal_injective v m prefix.prefix.below small
          (sym prefix.prefix.digits ∙ ap (λ (n : ℕ). take n text) long ∙ there.prefix.digits),
      ap (λ (n : ℕ). drop n text) long ∙ ap (drop (length (decimal m))) is ∙ rest-of-append (decimal m) tail,
    )

-- and such a text has a prefix
pub number-some : (text tail : List ℕ) (m : ℕ) → text ≡ decimal m ++ tail → m < 2 ^ 64 → BeginsWithNoDigit tail → HasNoPrefix IsNumberText text → ⊥
number-some text tail m is small other none =
    let there = subst (λ (t : List ℕ). IsLongestPrefix IsNumberText t m (length (decimal m))) (sym is) (number-prefix m tail small other) in
    none (length (decimal m)) m there.within there.prefix
