-- What holds of every `Walk`.
use Rattle.std.specs.Prelude.{◌≡◌, ℕ, ◌<◌, ◌≤◌, IsSome, length, slice_index}
use Rattle.surw_base.specs.declared.limits.TheConstants.{THREADS, STEPS}
use Rattle.walk_rules.specs.declared.walk.Walk.TheInside.{Inside}
use Rattle.walk_rules.specs.UnderPct.{IsUnderPct, reached}

-- each thread has a number left, at most its count, and there is room for the step of a grant that waits
pub record IsWalk (walk : Inside) : Type 0 where
  pub few : length walk.counts ≤ THREADS
  pub each : length walk.left ≡ length walk.counts
  pub within : (thread : ℕ) → slice_index walk.left thread ≤ slice_index walk.counts thread
  pub told : walk.steps ≤ STEPS
  pub room : IsSome walk.waiting → walk.steps < STEPS
  pub pct : IsUnderPct walk.rule (length walk.counts) (reached walk.steps walk.waiting) walk.intended walk.ranks
