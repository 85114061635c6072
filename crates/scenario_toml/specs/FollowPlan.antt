-- The plan of a scenario's replay.
use Rattle.std.specs.Prelude.{◌≡◌, ℕ, List, [], length, replicate}
use Rattle.routine_kit.specs.declared.any_routine.AnyRoutine.{AnyRoutine}
use Rattle.run_rules.specs.declared.plan.Plan.{Plan}
use Rattle.seed_draws.specs.declared.any_draws.AnyDraws.{AnyDraws}
use Rattle.seed_draws.specs.declared.any_draws.AnyDraws.TheVariants.{Strict, Loose}
use Rattle.scenario_toml.specs.Draws.{whole}
use Rattle.walk_rules.specs.declared.asked.Asked.{Asked}
use Rattle.walk_rules.specs.declared.rule.Rule.TheVariants.{Follow}
use Rattle.walk_rules.specs.State.{new_walk}
use Rattle.scenario_toml.specs.State.{ScenarioState}

-- a count of 0 for each thread
abbrev pub no_counts : ScenarioState → List ℕ
no_counts s = replicate (length s.routines) 0

-- the entries of a list are asked for; no draw is, so both tapes are empty. What is selected is what the file says,
-- whatever its strategy
pub record IsFollowPlanOf (s : ScenarioState) (list : List Asked) (plan : Plan AnyRoutine AnyDraws AnyDraws) : Type 0 where
  pub world : plan.world ≡ s.size
  pub routines : plan.routines.items ≡ s.routines
  pub selection : plan.selection ≡ s.select
  pub walk : plan.walk ≡ new_walk (Follow list) (no_counts s)
  pub selected : plan.selected ≡ Strict (whole [])
  pub other : plan.other ≡ Loose (whole [])
  pub max_steps : plan.max_steps ≡ s.max_steps
  pub monitors : plan.monitors.items ≡ s.monitors
