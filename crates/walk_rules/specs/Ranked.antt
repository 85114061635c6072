-- What ranks are seen as.
use Rattle.std.specs.Prelude.{◌≡◌, ◌≢◌, ℕ, ◌+◌, ◌<◌, List, length, slice_index, ◌≤◌}
use Rattle.walk_rules.specs.declared.picked.Picked.{Picked}
use Rattle.walk_rules.specs.declared.picked.Picked.TheVariants as picked

-- how many threads there are, the priority of each once they are drawn, and the change points
pub record Ranked : Type 0 where
  pub threads : ℕ
  pub priorities : List ℕ
  pub changes : List ℕ

-- no thread has the number of a change point that isn't before this step
unfoldable pub IsFresh : ℕ → List ℕ → List ℕ → Type 0
IsFresh step changes priorities =
    (i : ℕ) → i < length changes → step ≤ slice_index changes i → (thread : ℕ) → slice_index priorities thread ≢ i + 1

-- after a pick of this step: the ranks are ready for the next, or as before where it stops
abbrev pub IsReadyFor : ℕ → Ranked → Ranked → Picked → Type 0
IsReadyFor step before now (picked.Grant thread forced) =
    (length now.priorities ≡ now.threads) × IsFresh (step + 1) now.changes now.priorities
IsReadyFor step before now (picked.Stop fault) = now ≡ before
