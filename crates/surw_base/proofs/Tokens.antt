-- The tokens of a text, and the text of a number as one of them.
use Rattle.std.proofs.Common.{◌≡◌, ℕ, ◌+◌, ◌%◌, ◌^◌, ◌<◌, ◌==◌, true, false, cond, List, [], ◌∷◌, ◌++◌, All, refl, ap, sym, ◌∙◌, arith}
use Rattle.std.proofs.lemmas.Bool.{ne_eqb}
use Rattle.std.proofs.lemmas.Cmp.{nat_list_eq_equiv}
use Rattle.std.proofs.lemmas.Fmt.{decimal_by_steps, decimal_is_IsNumeral}
use Rattle.std.proofs.lemmas.List.Elements.{All-cons, All-head, All-nil, All-push, All-tail}
use Rattle.std.specs.Cmp.Lexicographic.{same_text}
use Rattle.std.specs.Fmt.{decimal}
use Rattle.std.specs.Str.{bytes_eq}
use Rattle.std.specs.Str.Parse.{digits_value}
use Rattle.surw_base.specs.Tokens.{tokens, with_first_byte}

-- no byte is a space
abbrev pub NoSpace : List ℕ → Type 0
NoSpace bytes = All (λ b. (b == 32) ≡ false) bytes

step-no : (b : ℕ) (bs : List ℕ) → (b == 32) ≡ false → tokens (b ∷ bs) ≡ with_first_byte b (tokens bs)
unfolding tokens
step-no b bs other = ap (λ t. cond t ([] ∷ tokens bs) (with_first_byte b (tokens bs))) other

-- what has no space is one part, before the next space
pub tokens-prefix : (prefix rest : List ℕ) → NoSpace prefix → tokens (prefix ++ 32 ∷ rest) ≡ prefix ∷ tokens rest
unfolding tokens
tokens-prefix [] rest none = refl
tokens-prefix (b ∷ bs) rest none =
    step-no b (bs ++ 32 ∷ rest) (All-head (λ c. (c == 32) ≡ false) b bs none)
    ∙ ap (with_first_byte b) (tokens-prefix bs rest (All-tail (λ c. (c == 32) ≡ false) b bs none))

-- or at the end
pub tokens-last : (prefix : List ℕ) → NoSpace prefix → tokens prefix ≡ prefix ∷ []
unfolding tokens
tokens-last [] none = refl
tokens-last (b ∷ bs) none =
    step-no b bs (All-head (λ c. (c == 32) ≡ false) b bs none)
    ∙ ap (with_first_byte b) (tokens-last bs (All-tail (λ c. (c == 32) ≡ false) b bs none))

-- the digits of a number have none
pub no-space-decimal : (n : ℕ) → n < 2 ^ 64 → NoSpace (decimal n)
no-space-decimal n small = decimal_by_steps (λ m ds. NoSpace ds)
    (λ m lt. All-cons (λ b. (b == 32) ≡ false) (48 + m) [] (ne_eqb (48 + m) 32 (λ e. omega (arith, e))) (All-nil (λ b. (b == 32) ≡ false)))
    (λ m ds le all. All-push (λ b. (b == 32) ≡ false) ds (48 + m % 10) all (ne_eqb (48 + m % 10) 32 (λ e. omega (arith, e))))
    n small

-- and have its value
pub value-decimal : (n : ℕ) → n < 2 ^ 64 → digits_value 10 (decimal n) ≡ n
value-decimal n small = (decimal_is_IsNumeral n small).1

-- the same bytes, as a test
pub same-bytes : (xs ys : List ℕ) → ys ≡ xs → bytes_eq xs ys ≡ true
same-bytes xs ys same = ap (bytes_eq xs) same ∙ nat_list_eq_equiv.refl xs

pub bytes-same : (xs ys : List ℕ) → bytes_eq xs ys ≡ true → ys ≡ xs
bytes-same xs ys same = sym (same_text xs ys (sym same))
