-- The tokens before an arrow, and the register behind it.
use Rattle.std.proofs.Common.{◌≡◌, ℕ, ◌+◌, List, [], ◌∷◌, ◌++◌, length, take, drop, map, refl, ap, sym, ◌∙◌, arith, length-append, All, Option, Some, None}
use Rattle.std.proofs.lemmas.List.{take_at, drop_at}
use Rattle.std.proofs.lemmas.List.Elements.{All-nil, All-cons, All-head, All-tail, All-same}
use Rattle.routine_kit.specs.declared.operand.Operand.{Operand}
use Rattle.routine_kit.specs.declared.operand.Operand.TheVariants.{Num, Reg}
use Rattle.routine_kit.specs.declared.token.Token.{Token}
use Rattle.routine_kit.specs.declared.token.Token.TheVariants.{Value, If, Equal, Unequal, Arrow}
use Rattle.routine_kit.specs.Line.{IsOperand, IsTarget}
use Rattle.routine_kit.specs.LineText.{IsToken, into_tokens}

-- how many arrows there are
abbrev arrows : List Token → ℕ
arrows [] = 0
arrows (Arrow ∷ ws) = 1 + arrows ws
arrows (Value x ∷ ws) = arrows ws
arrows (If ∷ ws) = arrows ws
arrows (Equal ∷ ws) = arrows ws
arrows (Unequal ∷ ws) = arrows ws

arrow-in : (prefix : List Token) (reg : ℕ) → arrows (prefix ++ into_tokens (Some reg)) ≡ arrows prefix + 1
arrow-in [] reg = refl
arrow-in (Arrow ∷ ws) reg = omega (arith, arrow-in ws reg)
arrow-in (Value x ∷ ws) reg = arrow-in ws reg
arrow-in (If ∷ ws) reg = arrow-in ws reg
arrow-in (Equal ∷ ws) reg = arrow-in ws reg
arrow-in (Unequal ∷ ws) reg = arrow-in ws reg

no-arrow : (operands : List Operand) → arrows (map Value operands ++ []) ≡ 0
no-arrow [] = refl
no-arrow (x ∷ xs) = no-arrow xs

-- tokens with an arrow at their end have one reading
pub reply-only : (tokens prefix : List Token) (reg : ℕ) (operands : List Operand) (into : Option ℕ) → tokens ≡ prefix ++ into_tokens (Some reg)
    → tokens ≡ map Value operands ++ into_tokens into → (prefix ≡ map Value operands) × (Some reg ≡ into)
reply-only tokens prefix reg operands None here is =
    absurd (omega (arith, ap arrows here, arrow-in prefix reg, ap arrows is, no-arrow operands))
reply-only tokens prefix reg operands (Some other) here is =
    let both : prefix ++ into_tokens (Some reg) ≡ map Value operands ++ into_tokens (Some other) = sym here ∙ is in
    let long : length prefix ≡ length (map Value operands) =
    omega (arith, ap length both, length-append prefix (into_tokens (Some reg)), length-append (map Value operands) (into_tokens (Some other))) in
    let rest : into_tokens (Some reg) ≡ into_tokens (Some other) =
    sym (drop_at prefix (into_tokens (Some reg)) (length prefix) refl) ∙ ap (drop (length prefix)) both ∙ drop_at (map Value operands) (into_tokens (Some other)) (length prefix) (sym long) in (
      sym (take_at prefix (into_tokens (Some reg)) (length prefix) refl) ∙ ap (take (length prefix)) both ∙ take_at (map Value operands) (into_tokens (Some other)) (length prefix) (sym long),
      (cc),
    )

-- a token that is an operand
pub fits-one : (x : Operand) → IsToken (Value x) → IsOperand x
fits-one (Num n) small = tt
fits-one (Reg r) small = small

fits-all : (operands : List Operand) (into : Option ℕ) → All IsToken (map Value operands ++ into_tokens into) → All IsOperand operands × IsTarget into
fits-all [] None all = (All-nil IsOperand, tt)
fits-all [] (Some reg) all = (All-nil IsOperand, All-head IsToken (Value (Reg reg)) [] (All-tail IsToken Arrow (Value (Reg reg) ∷ []) all))
fits-all (x ∷ xs) into all =
    let more = fits-all xs into (All-tail IsToken (Value x) (map Value xs ++ into_tokens into) all) in
    (All-cons IsOperand x xs (fits-one x (All-head IsToken (Value x) (map Value xs ++ into_tokens into) all)) more.0, more.1)

-- the operands and the register of fitting tokens fit
pub reply-fits : (tokens : List Token) (operands : List Operand) (into : Option ℕ) → tokens ≡ map Value operands ++ into_tokens into → All IsToken tokens
    → All IsOperand operands × IsTarget into
reply-fits tokens operands into is all = fits-all operands into (All-same IsToken (map Value operands ++ into_tokens into) tokens (sym is) all)
