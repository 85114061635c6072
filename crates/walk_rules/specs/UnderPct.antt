-- What a walk keeps under PCT.
use Rattle.std.specs.Prelude.{◌≡◌, ℕ, ◌+◌, ◌<◌, Option, None, Some, length}
use Rattle.walk_rules.specs.declared.picked.Grant.{Grant}
use Rattle.walk_rules.specs.declared.rule.Rule.{Rule}
use Rattle.walk_rules.specs.declared.rule.Rule.TheVariants.{Pct}
use Rattle.walk_rules.specs.Ranked.{Ranked, IsFresh}
use Rattle.walk_rules.specs.Walk.{IsDepth}

-- the steps whose changes were made: those that were told, and the one of a grant that waits
abbrev pub reached : ℕ → Option Grant → ℕ
reached steps None = steps
reached steps (Some grant) = steps + 1

-- once the changes of a step were made each thread has a priority, and none has the number of a later change point
pub record IsReady (threads steps : ℕ) (ranks : Ranked) : Type 0 where
  pub each : ranks.threads ≡ threads
  pub drawn : 0 < steps → length ranks.priorities ≡ threads
  pub fresh : 0 < steps → IsFresh steps ranks.changes ranks.priorities

abbrev pub AreReady : ℕ → ℕ → Option Ranked → Type 0
AreReady threads steps None = ⊥
AreReady threads steps (Some ranks) = IsReady threads steps ranks

-- under PCT no thread is intended, and there are ranks; under no other rule are there any
abbrev pub IsUnderPct : Rule → ℕ → ℕ → Option ℕ → Option Ranked → Type 0
IsUnderPct (Pct depth) threads steps intended ranks = IsDepth (Pct depth) × (intended ≡ None) × AreReady threads steps ranks
IsUnderPct rule threads steps intended ranks = ranks ≡ None
