-- What an order and its offsets are printed as.
use Rattle.std.proofs.Common.{◌≡◌, ℕ, zero, suc, ◌+◌, List, [], ◌∷◌, ◌++◌, length, get_or, codes, ap, sym, ◌∙◌, arith, append-nil}
use Rattle.std.proofs.lemmas.Grind.{flat_map-append}
use Rattle.std.specs.List.{flat_map, range_with_len}
use Rattle.draw_split.specs.Named.{Names}
use Rattle.draw_split.specs.Split.{Parts}
use Rattle.surw_base.specs.Lines.{list_line}
use Rattle.order_text.specs.OrderText.{offsets_line, order_text}

range-more : (from n : ℕ) → range_with_len from (suc n) ≡ range_with_len from n ++ (from + n) ∷ []
range-more from zero = ap (λ (k : ℕ). k ∷ []) (omega arith)
range-more from (suc n) = ap (λ (l : List ℕ). from ∷ l) (range-more (from + 1) n ∙ ap (λ (k : ℕ). range_with_len (from + 1) n ++ k ∷ []) (omega arith))

-- the lines of one thread more
pub lines-more : (split : Parts) (threads : ℕ)
    → flat_map (offsets_line split) (range_with_len 0 (threads + 1)) ≡ flat_map (offsets_line split) (range_with_len 0 threads) ++ offsets_line split threads
lines-more split threads =
    let next : threads + 1 ≡ suc threads = omega arith in
    ap (λ (n : ℕ). flat_map (offsets_line split) (range_with_len 0 n)) next
    ∙ ap (flat_map (offsets_line split)) (range-more 0 threads ∙ ap (λ (k : ℕ). range_with_len 0 threads ++ k ∷ []) (omega arith))
    ∙ flat_map-append (offsets_line split) (range_with_len 0 threads) (threads ∷ [])
    ∙ ap (λ (l : List ℕ). flat_map (offsets_line split) (range_with_len 0 threads) ++ l) (append-nil (offsets_line split threads))

-- draws name one text
pub text-one : (counts draws : List ℕ) (split twin : Parts) → Names counts draws split → Names counts draws twin
    → order_text (length counts) twin ≡ order_text (length counts) split
text-one counts draws split twin is are =
    let order : twin.order ≡ split.order = are.order_named ∙ sym is.order_named in
    let each : (thread : ℕ) → get_or twin.offsets thread [] ≡ get_or split.offsets thread [] =
    λ thread. are.offsets_named thread ∙ sym (is.offsets_named thread) in
    (λ i. list_line (codes "order") (order i)
    ++ flat_map (λ (thread : ℕ). list_line (codes "offsets") (thread ∷ each thread i)) (range_with_len 0 (length counts)))
