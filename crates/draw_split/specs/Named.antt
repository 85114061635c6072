-- The order and the offsets that a list of draws names.
use Rattle.std.specs.Prelude.{◌≡◌, ℕ, ◌==◌, List, [], ◌∷◌, slice_index_or, if◌then◌else◌}
use Rattle.draw_split.specs.Bag.{pick, offset, less_one}
use Rattle.draw_split.specs.DrawList.{IsDrawList}
use Rattle.draw_split.specs.Split.{Parts}

-- the picks of the draws, each from the counts that those before it left
unfoldable pub named_order : List ℕ → List ℕ → List ℕ
named_order counts [] = []
named_order counts (draw ∷ draws) = pick counts draw ∷ named_order (less_one counts (pick counts draw)) draws

-- the offsets of those picks that gave a thread, in order
unfoldable pub named_offsets : List ℕ → List ℕ → ℕ → List ℕ
named_offsets counts [] thread = []
named_offsets counts (draw ∷ draws) thread =
    if pick counts draw == thread
    then offset counts draw ∷ named_offsets (less_one counts (pick counts draw)) draws thread
    else named_offsets (less_one counts (pick counts draw)) draws thread

-- the draws are a draw list of the counts, and name this order and these offsets
pub record Names (counts draws : List ℕ) (split : Parts) : Type 0 where
  pub list : IsDrawList counts draws
  pub order_named : split.order ≡ named_order counts draws
  pub offsets_named : (thread : ℕ) → slice_index_or split.offsets thread [] ≡ named_offsets counts draws thread
