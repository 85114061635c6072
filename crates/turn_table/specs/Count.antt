-- How often a number stands in a list, and sums over what the seats know.
use Rattle.std.specs.Prelude.{◌≡◌, ◌≤◌, ℕ, Bool, true, false, ◌==◌, ◌+◌, List, [], ◌∷◌, nat_lt}

-- 1 for true, 0 for false
abbrev pub bit : Bool → ℕ
bit true = 1
bit false = 0

-- how often a number stands in a list
abbrev pub times : ℕ → List ℕ → ℕ
times k [] = 0
times k (x ∷ xs) = bit (k == x) + times k xs

-- 1 where k < n, and 0 elsewhere: how often k stands among the numbers below n
abbrev pub below : ℕ → ℕ → ℕ
below k n = bit (nat_lt k n)

-- the sum of a count over all seats
abbrev pub total : {V : Type 0} → (V → ℕ) → List V → ℕ
total f [] = 0
total f (v ∷ vs) = f v + total f vs

-- each of these rounds is below this one
abbrev pub AreBelow : ℕ → List ℕ → Type 0
AreBelow round rounds = (k : ℕ) → round ≤ k → times k rounds ≡ 0
