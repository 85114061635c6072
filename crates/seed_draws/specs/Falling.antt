-- The bounds of the draws that name an order.
use Rattle.std.specs.Prelude.{ℕ, zero, suc, List, [], ◌∷◌}

-- the numbers from this one down to 1
unfoldable pub falling : ℕ → List ℕ
falling zero = []
falling (suc n) = suc n ∷ falling n
