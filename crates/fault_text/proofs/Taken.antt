-- A line that is taken piece by piece.
use Rattle.std.proofs.Common.{◌≡◌, ℕ, zero, suc, ◌<◌, ◌≤◌, List, [], ◌∷◌, ◌++◌, length, take, drop, get_or, Option, refl, ap, sym, ◌∙◌, append_assoc, arith}
use Rattle.std.proofs.lemmas.List.{take_all}
use Rattle.std.specs.List.{flat_map}
use Rattle.surw_io.specs.Content.{with_end, HoldsPrefix}
use Rattle.surw_io.proofs.Told.{with_end-twice}
use Rattle.fault_text.specs.Item.{item_text}
use Rattle.fault_text.specs.declared.item.Item.{Item}

-- a prefix of the first piece is a prefix of all
pub prefix_of_first : (first after : Option (List ℕ)) (piece rest all : List ℕ) → piece ++ rest ≡ all → HoldsPrefix first piece after → HoldsPrefix first all after
prefix_of_first first after piece rest all whole held = record {
  prefix = held.prefix;
  rest = held.rest ++ rest;
  whole = sym (append_assoc held.prefix held.rest rest) ∙ ap (λ (l : List ℕ). l ++ rest) held.whole ∙ whole;
  held = held.held;
}

-- a piece behind what was taken is taken with it
pub one_more_whole : (first before after : Option (List ℕ)) (done piece : List ℕ) → before ≡ with_end first done → after ≡ with_end before piece
    → after ≡ with_end first (done ++ piece)
one_more_whole first before after done piece told taken =
    taken ∙ ap (λ (t : Option (List ℕ)). with_end t piece) told ∙ with_end-twice first done piece

-- a prefix of a piece behind whole pieces is a prefix of them and the piece
pub prefix_of_next : (first before after : Option (List ℕ)) (done piece : List ℕ) → before ≡ with_end first done → HoldsPrefix before piece after
    → HoldsPrefix first (done ++ piece) after
prefix_of_next first before after done piece told held = record {
  prefix = done ++ held.prefix;
  rest = held.rest;
  whole = append_assoc done held.prefix held.rest ∙ ap (λ (l : List ℕ). done ++ l) held.whole;
  held = one_more_whole first before after done held.prefix told held.held;
}

-- items, each behind a space
abbrev pub items_text : List Item → List ℕ
items_text items = flat_map (λ item. 32 ∷ item_text item) items

-- the items before one, the item and the items behind it are all items
around : (items : List Item) (i : ℕ) (d : Item) → i < length items
    → items_text (take i items) ++ ((32 ∷ item_text (get_or items i d)) ++ items_text (drop (suc i) items)) ≡ items_text items
around [] i d within = absurd (omega arith)
around (x ∷ xs) zero d within = refl
around (x ∷ xs) (suc i) d within =
    append_assoc (32 ∷ item_text x) (items_text (take i xs)) _ ∙ ap (λ (l : List ℕ). (32 ∷ item_text x) ++ l) (around xs i d (omega arith))

-- and so in the line of a word
pub line-around : (word : List ℕ) (items : List Item) (i : ℕ) (d : Item) → i < length items
    → ((word ++ items_text (take i items)) ++ 32 ∷ item_text (get_or items i d)) ++ (items_text (drop (suc i) items) ++ 10 ∷ []) ≡ (word ++ items_text items) ++ 10 ∷ []
line-around word items i d within =
    let before = items_text (take i items) in
    let piece = 32 ∷ item_text (get_or items i d) in
    let behind = items_text (drop (suc i) items) in
    append_assoc (word ++ before) piece (behind ++ 10 ∷ []) ∙ append_assoc word before (piece ++ (behind ++ 10 ∷ []))
    ∙ ap (λ (l : List ℕ). word ++ (before ++ l)) (sym (append_assoc piece behind (10 ∷ [])))
    ∙ ap (λ (l : List ℕ). word ++ l) (sym (append_assoc before (piece ++ behind) (10 ∷ [])) ∙ ap (λ (l : List ℕ). l ++ 10 ∷ []) (around items i d within))
    ∙ sym (append_assoc word (items_text items) (10 ∷ []))

-- after the last item all items are taken
pub all-taken : (first before : Option (List ℕ)) (word : List ℕ) (items : List Item) (i : ℕ) → length items ≤ i → before ≡ with_end first (word ++ items_text (take i items))
    → before ≡ with_end first (word ++ items_text items)
all-taken first before word items i past told = told ∙ ap (λ (xs : List Item). with_end first (word ++ items_text xs)) (take_all i items past)
