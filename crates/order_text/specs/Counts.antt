-- Counts of threads.
use Rattle.std.specs.Prelude.{ℕ, ◌≤◌, List, length, sum}
use Rattle.surw_base.specs.declared.limits.TheConstants.{THREADS, STEPS}

-- at most as many counts as threads, with at most as many steps in all
pub record AreCounts (counts : List ℕ) : Type 0 where
  pub few : length counts ≤ THREADS
  pub small : sum counts ≤ STEPS
