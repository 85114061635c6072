-- The answer of the job `profile` to the bytes of its file.
use Rattle.std.specs.Prelude.{None, ◌≡◌, ℕ, List, Ok, Err}
use Rattle.pure_run.specs.declared.profiling.ProfileFault.{ProfileFault}
use Rattle.pure_run.specs.declared.profiling.ProfileFault.TheVariants as profile
use Rattle.report_text.specs.ProfileText.{profile_text}
use Rattle.scenario_toml.specs.Chosen.{seed_by}
use Rattle.scenario_toml.specs.Scenario.{scenario_of}
use Rattle.scenario_toml.specs.State.{ScenarioState}
use Rattle.scenario_toml.specs.declared.choice.Choice.{Choice}
use Rattle.fault_text.specs.declared.fault.Fault.TheVariants.{Scenario, ProfileStepLimit, ProfileDeadlock}
use Rattle.surw_cli.specs.Answer.{Answer, Report, Refusal}
use Rattle.surw_cli.specs.Profiled.{IsProfileOf, IsUnprofiled}
use Rattle.surw_cli.specs.declared.status.Status.TheVariants.{Done}

-- the bytes are a scenario, and its profile is printed
pub record IsProfileReport (choice : Choice) (bytes text : List ℕ) : Type 0 where
  pub scenario : ScenarioState
  pub form : scenario_of bytes ≡ Ok scenario
  pub selected : List ℕ
  pub all : List ℕ
  pub profile : IsProfileOf scenario (seed_by scenario choice) selected all
  pub printed : text ≡ profile_text selected all

-- they are a scenario that has no profile, for this cause
pub record HasNoProfile (choice : Choice) (bytes : List ℕ) (fault : ProfileFault) : Type 0 where
  pub scenario : ScenarioState
  pub form : scenario_of bytes ≡ Ok scenario
  pub stopped : IsUnprofiled scenario (seed_by scenario choice) fault

-- no two cases hold of one file
abbrev pub profile_answer : Choice → List ℕ → Answer → Type 0
profile_answer choice bytes (Report Done text None) = IsProfileReport choice bytes text
profile_answer choice bytes (Refusal (Scenario fault)) = scenario_of bytes ≡ Err fault
profile_answer choice bytes (Refusal ProfileStepLimit) = HasNoProfile choice bytes profile.StepLimit
profile_answer choice bytes (Refusal (ProfileDeadlock step)) = HasNoProfile choice bytes (profile.Deadlock step)
profile_answer choice bytes _ = ⊥
