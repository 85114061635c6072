-- The members of a set of threads that has a bit for each.
use Rattle.std.specs.Prelude.{ℕ, ◌+◌, ◌/◌, ◌%◌, ◌==◌, zero, suc, List, [], ◌∷◌, if◌then◌else◌}

-- of the lowest bits, so many, those that are set, where the lowest has this number
unfoldable pub members : ℕ → ℕ → ℕ → List ℕ
members zero first bits = []
members (suc count) first bits =
    if bits % 2 == 1 then first ∷ members count (first + 1) (bits / 2) else members count (first + 1) (bits / 2)
