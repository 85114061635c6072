-- What holds of every `Weights`.
use Rattle.std.specs.Prelude.{◌≡◌, ◌≤◌, length, sum}
use Rattle.draw_split.specs.declared.weights.Weights.TheInside.{Inside}
use Rattle.surw_base.specs.declared.limits.TheConstants.{THREADS, STEPS}

-- the sum is kept beside the counts, and both are within the limits
pub record AreWeights (weights : Inside) : Type 0 where
  pub few : length weights.counts.items ≤ THREADS
  pub small : sum weights.counts.items ≤ STEPS
  pub kept : weights.sum ≡ sum weights.counts.items
