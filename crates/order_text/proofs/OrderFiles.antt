-- Order files: how many lines one has, and that bytes are one in one way.
use Rattle.std.proofs.Common.{◌≡◌, ℕ, zero, suc, ◌<◌, List, [], length, get_or, codes, ⊎_elim, ap, sym, subst, ◌∙◌, arith}
use Rattle.surw_base.specs.Lines.{IsListText}
use Rattle.order_text.specs.Lines.{lines_of}
use Rattle.order_text.specs.OrderFile.{IsOrderFile, IsOrderLine, IsOtherOrder}
use Rattle.order_text.proofs.ListTexts.{line-one}
use Rattle.order_text.proofs.WrongLines.{number-one}

-- an order file has two lines
pub two-lines : (bytes counts draws : List ℕ) → IsOrderFile bytes counts draws → length (lines_of bytes) ≡ 2
two-lines bytes counts draws form = ap length form.lines

-- each of the two lines of an order file is as asked
lines-right : (bytes counts draws : List ℕ) → IsOrderFile bytes counts draws → (place : ℕ) → place < 2 → IsOrderLine place (get_or (lines_of bytes) place [])
lines-right bytes counts draws form zero less =
    subst (λ (ls : List (List ℕ)). IsOrderLine 0 (get_or ls 0 [])) (sym form.lines) (counts, form.counts_listed, form.counts_allowed)
lines-right bytes counts draws form (suc zero) less =
    subst (λ (ls : List (List ℕ)). IsOrderLine 1 (get_or ls 1 [])) (sym form.lines) (draws, form.draws_listed)
lines-right bytes counts draws form (suc (suc place)) less = absurd (omega (arith, less))

-- so it has no wrong line
pub no-wrong : (bytes counts draws : List ℕ) (number : ℕ) → IsOrderFile bytes counts draws → IsOtherOrder bytes number → ⊥
no-wrong bytes counts draws number form other =
    let long = two-lines bytes counts draws form in
    let below : other.place < 2 = ⊎_elim (λ less. less) (λ less. omega (arith, less, long)) other.due in
    other.wrong (omega (arith, below, long)) (lines-right bytes counts draws form other.place below)

pub counts-one : (bytes counts draws others drawn : List ℕ) → IsOrderFile bytes counts draws → IsOrderFile bytes others drawn → counts ≡ others
counts-one bytes counts draws others drawn form twin =
    let line : twin.counts_line ≡ form.counts_line = ap (λ (ls : List (List ℕ)). get_or ls 0 []) (sym twin.lines ∙ form.lines) in
    line-one (codes "counts") counts others form.counts_line form.counts_listed (subst (IsListText (codes "counts") others) line twin.counts_listed)

pub draws-one : (bytes counts draws others drawn : List ℕ) → IsOrderFile bytes counts draws → IsOrderFile bytes others drawn → draws ≡ drawn
draws-one bytes counts draws others drawn form twin =
    let line : twin.draws_line ≡ form.draws_line = ap (λ (ls : List (List ℕ)). get_or ls 1 []) (sym twin.lines ∙ form.lines) in
    line-one (codes "draws") draws drawn form.draws_line form.draws_listed (subst (IsListText (codes "draws") drawn) line twin.draws_listed)

pub other-one : (bytes : List ℕ) (number other : ℕ) → IsOtherOrder bytes number → IsOtherOrder bytes other → other ≡ number
other-one bytes number other is twin = number-one IsOrderLine 2 (lines_of bytes) number other is twin
