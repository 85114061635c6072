-- The whole lines of a text, and what is left behind them.
use Rattle.std.proofs.Common.{◌≡◌, ◌≢◌, ℕ, zero, suc, ◌<◌, ◌==◌, false, List, [], ◌∷◌, ◌++◌, length, get_or, take, drop, refl, ap, sym, ◌∙◌, arith, drop-cons}
use Rattle.std.proofs.lemmas.Bool.{ne_eqb}
use Rattle.std.proofs.lemmas.List.{take-append-drop}
use Rattle.std.specs.List.{flat_map}
use Rattle.surw_base.specs.Lines.{line}
use Rattle.replay_text.specs.Lines.{unfinished, whole_lines, with_byte}

-- up to a line feed and not with one: the first line
pub lines-split : (text : List ℕ) (end : ℕ) → end < length text → ((k : ℕ) → k < end → get_or text k 0 ≢ 10) → get_or text end 0 ≡ 10
    → whole_lines text ≡ take end text ∷ whole_lines (drop (suc end) text)
unfolding whole_lines
lines-split [] end lt none here = absurd (omega arith)
lines-split (byte ∷ bytes) zero lt none here = rw here refl
lines-split (byte ∷ bytes) (suc end) lt none here =
    let other : (byte == 10) ≡ false = ne_eqb byte 10 (none 0 (omega arith)) in
    rw other (ap (with_byte byte) (lines-split bytes end (omega arith) (λ k less. none (suc k) (omega arith)) here))

-- a text without a line feed has no whole line
pub lines-none : (text : List ℕ) → ((k : ℕ) → k < length text → get_or text k 0 ≢ 10) → whole_lines text ≡ []
unfolding whole_lines
lines-none [] none = refl
lines-none (byte ∷ bytes) none =
    let other : (byte == 10) ≡ false = ne_eqb byte 10 (none 0 (omega arith)) in
    rw other (ap (with_byte byte) (lines-none bytes (λ k less. none (suc k) (omega arith))))

-- a text is its first line, a line feed and what is behind it
split-at : (text : List ℕ) (end : ℕ) → end < length text → get_or text end 0 ≡ 10 → text ≡ take end text ++ 10 ∷ drop (suc end) text
split-at text end lt here =
    sym (take-append-drop end text) ∙ ap (λ l. take end text ++ l) (drop-cons text end 0 lt) ∙ ap (λ b. take end text ++ b ∷ drop (suc end) text) here

drop-line : (front behind more : List ℕ) → drop (length ((front ++ 10 ∷ []) ++ more)) (front ++ 10 ∷ behind) ≡ drop (length more) behind
drop-line [] behind more = refl
drop-line (x ∷ xs) behind more = drop-line xs behind more

-- what is left is what is left behind the first line
pub rest-behind : (text front behind : List ℕ) → text ≡ front ++ 10 ∷ behind → whole_lines text ≡ front ∷ whole_lines behind → unfinished text ≡ unfinished behind
unfolding unfinished
rest-behind text front behind is lines =
    let more = flat_map line (whole_lines behind) in
    ap (λ ls. drop (length (flat_map line ls)) text) lines
    ∙ ap (drop (length ((front ++ 10 ∷ []) ++ more))) is ∙ drop-line front behind more

pub rest-split : (text : List ℕ) (end : ℕ) → end < length text → ((k : ℕ) → k < end → get_or text k 0 ≢ 10) → get_or text end 0 ≡ 10
    → unfinished text ≡ unfinished (drop (suc end) text)
rest-split text end lt none here = rest-behind text (take end text) (drop (suc end) text) (split-at text end lt here) (lines-split text end lt none here)

-- where there is no whole line, all is left
pub rest-none : (text : List ℕ) → whole_lines text ≡ [] → unfinished text ≡ text
unfolding unfinished
rest-none text none = ap (λ ls. drop (length (flat_map line ls)) text) none

-- an empty text has no line and no rest
pub empty-lines : (text : List ℕ) → (0 < length text → ⊥) → (whole_lines text ≡ []) × (unfinished text ≡ [])
unfolding whole_lines unfinished
empty-lines [] none = (refl, refl)
empty-lines (byte ∷ bytes) none = absurd (none (omega arith))
