-- All draw lists, written out. Nothing in code builds this list.
use Rattle.std.specs.Prelude.{ℕ, zero, suc, ◌*◌, List, [], ◌∷◌, map, sum, count_by}
use Rattle.std.specs.List.{flat_map, range_with_len}
use Rattle.std.specs.Str.{bytes_eq}
use Rattle.draw_split.specs.Named.{named_order}

-- the lists of that many draws, the first draw below the number, the second below one less, and so on
unfoldable pub lists_of : ℕ → List (List ℕ)
lists_of zero = [] ∷ []
lists_of (suc n) = flat_map (λ draw. map (λ draws. draw ∷ draws) (lists_of n)) (range_with_len 0 (suc n))

-- all draw lists of the counts
abbrev pub all_draws : List ℕ → List (List ℕ)
all_draws counts = lists_of (sum counts)

-- how often some lists hold a list
abbrev pub times_listed : List ℕ → List (List ℕ) → ℕ
times_listed draws lists = count_by (λ other. bytes_eq other draws) lists

-- how many of some draw lists name an order
abbrev pub times_named : List ℕ → List ℕ → List (List ℕ) → ℕ
times_named counts order lists = count_by (λ draws. bytes_eq (named_order counts draws) order) lists

unfoldable pub factorial : ℕ → ℕ
factorial zero = 1
factorial (suc n) = suc n * factorial n

-- the product of the factorials of the counts
unfoldable pub factorials : List ℕ → ℕ
factorials [] = 1
factorials (count ∷ counts) = factorial count * factorials counts
