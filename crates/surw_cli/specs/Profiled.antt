-- The profile of a scenario.
use Rattle.std.specs.Prelude.{ℕ, List, None, Some}
use Rattle.pure_run.specs.declared.profiling.ProfileFault.{ProfileFault}
use Rattle.pure_run.specs.declared.profiling.ProfileFault.TheVariants.{OutOfMemory}
use Rattle.pure_run.specs.Profile.{IsProfile, IsProfileStop}
use Rattle.routine_kit.specs.declared.any_routine.AnyRoutine.{AnyRoutine}
use Rattle.run_rules.specs.declared.plan.Plan.{Plan}
use Rattle.scenario_toml.specs.declared.choice.Choice.{Choice}
use Rattle.scenario_toml.specs.declared.strategy.Strategy.TheVariants.{Plain}
use Rattle.scenario_toml.specs.FollowPlan.{no_counts}
use Rattle.scenario_toml.specs.Plan.{IsPlanOf}
use Rattle.scenario_toml.specs.State.{ScenarioState}
use Rattle.seed_draws.specs.declared.any_draws.AnyDraws.{AnyDraws}
use Rattle.surw_cli.specs.Script.{script}

-- the plain strategy is chosen in place of the file's, and nothing else
abbrev pub plain_choice : Choice
plain_choice = record { strategy = Some Plain; seed = None; depth = None }

-- the plan that is profiled: under the plain strategy, so that the events selected are those that the file says
abbrev pub IsProfilePlan : ScenarioState → Plan AnyRoutine AnyDraws AnyDraws → Type 0
IsProfilePlan scenario plan = IsPlanOf scenario plain_choice (no_counts scenario) plan

-- how many selected events and how many events each thread made in the run that this seed gives
pub record IsProfileOf (scenario : ScenarioState) (seed : ℕ) (selected all : List ℕ) : Type 0 where
  pub plan : Plan AnyRoutine AnyDraws AnyDraws
  pub planned : IsProfilePlan scenario plan
  pub made : IsProfile (script plan) seed selected all

-- that run stops for this cause
pub record StopsProfile (scenario : ScenarioState) (seed : ℕ) (fault : ProfileFault) : Type 0 where
  pub plan : Plan AnyRoutine AnyDraws AnyDraws
  pub planned : IsProfilePlan scenario plan
  pub stopped : IsProfileStop (script plan) seed fault

-- why a scenario has no profile: its run stops so, or memory is refused
abbrev pub IsUnprofiled : ScenarioState → ℕ → ProfileFault → Type 0
IsUnprofiled scenario seed OutOfMemory = Unit {0}
IsUnprofiled scenario seed fault = StopsProfile scenario seed fault
