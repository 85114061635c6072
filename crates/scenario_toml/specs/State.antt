-- What a scenario is seen as.
use Rattle.std.specs.Prelude.{◌≡◌, ℕ, ◌≤◌, List, All, Option, length, sum}
use Rattle.surw_base.specs.declared.limits.TheConstants.{THREADS, STEPS, MONITORS, DEPTH}
use Rattle.event_class.specs.declared.pickable.Pickable.{Pickable}
use Rattle.routine_kit.specs.declared.any_routine.AnyRoutine.{AnyRoutine}
use Rattle.test_world.specs.declared.monitor.Monitor.{Monitor}
use Rattle.test_world.specs.declared.size.WorldSize.{WorldSize}
use Rattle.test_world.specs.Monitor.{CanWatch}
use Rattle.test_world.specs.Size.{IsWithinLimits}
use Rattle.scenario_toml.specs.declared.counts_rule.CountsRule.{CountsRule}
use Rattle.scenario_toml.specs.declared.counts_rule.CountsRule.TheVariants.{Profile, Given}
use Rattle.scenario_toml.specs.declared.strategy.Strategy.{Strategy}
use Rattle.scenario_toml.specs.Tapes.{Entries}

-- the values of its keys; the tapes by their entries, where there are tapes, and the threads by their routines at their start
pub record ScenarioState : Type 0 where
  pub strategy : Strategy
  pub seed : ℕ
  pub depth : ℕ
  pub max_steps : ℕ
  pub select : List Pickable
  pub counts : CountsRule
  pub monitors : List Monitor
  pub size : WorldSize
  pub tapes : Option Entries
  pub routines : List AnyRoutine

-- given counts are one for each thread, with a sum of at most `STEPS`
abbrev pub HasCounts : CountsRule → ℕ → Type 0
HasCounts Profile threads = Unit {0}
HasCounts (Given counts) threads = (length counts ≡ threads) × (sum counts ≤ STEPS)

-- what holds of every scenario: a run can be made of it
pub record IsScenario (s : ScenarioState) : Type 0 where
  pub depth_some : 1 ≤ s.depth
  pub depth_most : s.depth ≤ DEPTH
  pub steps_some : 1 ≤ s.max_steps
  pub steps_most : s.max_steps ≤ STEPS
  pub limits : IsWithinLimits s.size
  pub threads : length s.routines ≤ THREADS
  pub counted : HasCounts s.counts (length s.routines)
  pub watchers : length s.monitors ≤ MONITORS
  pub watched : All (CanWatch s.size) s.monitors
