-- The first line of a text, and the lines behind it.
use Rattle.std.proofs.Common.{◌≡◌, ◌≢◌, ℕ, zero, suc, ◌<◌, ◌==◌, Bool, true, false, List, [], ◌∷◌, cond, length, get_or, take, drop, refl, ap, arith}
use Rattle.std.proofs.lemmas.Bool.{ne_eqb}
use Rattle.surw_base.specs.Tokens.{with_first_byte}
use Rattle.order_text.specs.Lines.{lines_of}

-- up to a line feed and not with one: the first line
pub lines-split : (text : List ℕ) (end : ℕ) → end < length text → ((k : ℕ) → k < end → get_or text k 0 ≢ 10) → get_or text end 0 ≡ 10
    → lines_of text ≡ take end text ∷ lines_of (drop (suc end) text)
unfolding lines_of
lines-split [] end lt none here = absurd (omega arith)
lines-split (byte ∷ bytes) zero lt none here = rw here refl
lines-split (byte ∷ bytes) (suc end) lt none here =
    let other : (byte == 10) ≡ false = ne_eqb byte 10 (none 0 (omega arith)) in
    rw other (ap (with_first_byte byte) (lines-split bytes end (omega arith) (λ k less. none (suc k) (omega arith)) here))

-- a text without a line feed is one line
pub lines-one : (text : List ℕ) → 0 < length text → ((k : ℕ) → k < length text → get_or text k 0 ≢ 10) → lines_of text ≡ text ∷ []
unfolding lines_of
lines-one [] some none = absurd (omega arith)
lines-one (byte ∷ []) some none =
    let other : (byte == 10) ≡ false = ne_eqb byte 10 (none 0 (omega arith)) in
    rw other refl
lines-one (byte ∷ next ∷ bytes) some none =
    let other : (byte == 10) ≡ false = ne_eqb byte 10 (none 0 (omega arith)) in
    rw other (ap (with_first_byte byte) (lines-one (next ∷ bytes) (omega arith) (λ k less. none (suc k) (omega arith))))

-- the empty text has no lines
pub lines-none : lines_of [] ≡ []
unfolding lines_of
lines-none = refl

-- a text of no bytes has no lines
pub empty-lines : (text : List ℕ) → (0 < length text → ⊥) → lines_of text ≡ []
unfolding lines_of
empty-lines [] none = refl
empty-lines (byte ∷ bytes) none = absurd (none (omega arith))

first-grows : (byte : ℕ) (lines : List (List ℕ)) → 0 < length (with_first_byte byte lines)
first-grows byte [] = omega arith
first-grows byte (line ∷ lines) = omega arith

begins : (byte : ℕ) (test : Bool) (lines : List (List ℕ)) → 0 < length (cond test ([] ∷ lines) (with_first_byte byte lines))
begins byte true lines = omega arith
begins byte false lines = first-grows byte lines

-- a text of some bytes has a line
pub some-line : (text : List ℕ) → 0 < length text → 0 < length (lines_of text)
unfolding lines_of
some-line [] some = absurd (omega arith)
some-line (byte ∷ bytes) some = begins byte _ (lines_of bytes)
