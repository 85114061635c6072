-- What an order and its offsets are printed as.
use Rattle.std.specs.Prelude.{ℕ, List, [], ◌∷◌, ◌++◌, codes, slice_index_or}
use Rattle.std.specs.List.{flat_map, range_with_len}
use Rattle.draw_split.specs.Split.{Parts}
use Rattle.surw_base.specs.Lines.{list_line}

-- the line of a thread's offsets: its number, then the offsets
abbrev pub offsets_line : Parts → ℕ → List ℕ
offsets_line split thread = list_line (codes "offsets") (thread ∷ slice_index_or split.offsets thread [])

-- the order, and then the offsets of each thread
abbrev pub order_text : ℕ → Parts → List ℕ
order_text threads split = list_line (codes "order") split.order ++ flat_map (offsets_line split) (range_with_len 0 threads)
