-- Lists of draws.
use Rattle.std.specs.Prelude.{◌≡◌, ℕ, ◌+◌, ◌<◌, List, length, sum, slice_index}

-- one draw for each place in all, each below the number of places that are left when it is made
pub record IsDrawList (counts draws : List ℕ) : Type 0 where
  pub full : length draws ≡ sum counts
  pub each : (k : ℕ) → k < length draws → slice_index draws k + k < sum counts
