-- The longest prefix of a text that a grammar takes.
use Rattle.std.specs.Prelude.{ℕ, ◌<◌, ◌≤◌, List, length, take}

-- the first `len` bytes are the text of `v`, and no longer prefix is the text of anything
pub record IsLongestPrefix {V : Type 0} (IsTextOf : List ℕ → V → Type 0) (text : List ℕ) (v : V) (len : ℕ) : Type 0 where
  pub within : len ≤ length text
  pub prefix : IsTextOf (take len text) v
  pub longest : (n : ℕ) (w : V) → len < n → n ≤ length text → IsTextOf (take n text) w → ⊥

-- no prefix is the text of anything
abbrev pub HasNoPrefix : {V : Type 0} → (List ℕ → V → Type 0) → List ℕ → Type 0
HasNoPrefix {V} IsTextOf text = (n : ℕ) (w : V) → n ≤ length text → IsTextOf (take n text) w → ⊥
