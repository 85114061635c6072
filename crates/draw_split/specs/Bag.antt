-- The bag of counts, and what a draw from it means.
use Rattle.std.specs.Prelude.{ℕ, ◌-◌, ◌==◌, List, take, replicate, count_by, slice_index, slice_set}
use Rattle.std.specs.List.{flat_map, enumerate_from}

-- thread 0 as often as its count says, then thread 1, and so on
unfoldable pub bag : List ℕ → List ℕ
bag counts = flat_map (λ e. replicate e.1 e.0) (enumerate_from 0 counts)

-- the pick of a draw: the thread at that place of the bag
unfoldable pub pick : List ℕ → ℕ → ℕ
pick counts draw = slice_index (bag counts) draw

-- the offset of a draw: how many places before it are the same thread's
unfoldable pub offset : List ℕ → ℕ → ℕ
offset counts draw = count_by (λ thread. thread == pick counts draw) (take draw (bag counts))

-- the counts with one less for a thread
unfoldable pub less_one : List ℕ → ℕ → List ℕ
less_one counts thread = slice_set counts thread (slice_index counts thread - 1)
