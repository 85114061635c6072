-- The whole text of a number.
use Rattle.std.proofs.Common.{◌≡◌, ℕ, List, length, take, ap, sym, subst, ◌∙◌, arith, inl, inr}
use Rattle.std.proofs.lemmas.Bool.{cases_lt}
use Rattle.std.proofs.lemmas.Fmt.{decimal_injective}
use Rattle.std.proofs.lemmas.List.{take_all}
use Rattle.surw_base.specs.Prefix.{IsLongestPrefix}
use Rattle.surw_base.specs.Number.{IsNumberText}

-- a whole text is a prefix of itself
whole-prefix : (text : List ℕ) (n : ℕ) → IsNumberText text n → IsNumberText (take (length text) text) n
whole-prefix text n is = subst (λ (l : List ℕ). IsNumberText l n) (sym (take_all (length text) text (omega arith))) is

-- the longest prefix of a whole text is the text
pub full-prefix : (text : List ℕ) (v len n : ℕ) → IsLongestPrefix IsNumberText text v len → IsNumberText text n → len ≡ length text
full-prefix text v len n longest is = elim (cases_lt len (length text)) [
  | inl less ↦ absurd (longest.longest (length text) n less (omega arith) (whole-prefix text n is))
  | inr full ↦ omega (arith, longest.within)
]

-- the whole text is the text of one number
pub same-whole : (text : List ℕ) (v len n : ℕ) → IsLongestPrefix IsNumberText text v len → IsNumberText text n → v ≡ n
same-whole text v len n longest is =
    decimal_injective v n longest.prefix.below is.below
    (sym longest.prefix.digits ∙ ap (λ (k : ℕ). take k text) (full-prefix text v len n longest is) ∙ take_all (length text) text (omega arith) ∙ is.digits)
