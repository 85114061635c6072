-- The answer of the jobs `plan` and `run` to the bytes of their file.
use Rattle.std.specs.Prelude.{◌≡◌, ℕ, List, Option, Ok, Err}
use Rattle.pure_run.specs.declared.profiling.ProfileFault.{ProfileFault}
use Rattle.pure_run.specs.declared.profiling.ProfileFault.TheVariants as profile
use Rattle.report_text.specs.Report.{report_text}
use Rattle.run_rules.specs.Run.{Outcome}
use Rattle.scenario_toml.specs.Scenario.{scenario_of}
use Rattle.scenario_toml.specs.State.{ScenarioState}
use Rattle.scenario_toml.specs.declared.choice.Choice.{Choice}
use Rattle.fault_text.specs.declared.fault.Fault.{Fault}
use Rattle.fault_text.specs.declared.fault.Fault.TheVariants.{Scenario, ProfileStepLimit, ProfileDeadlock}
use Rattle.surw_io.specs.Made.{CreatedFile}
use Rattle.surw_cli.specs.Answer.{Answer, Report, Refusal}
use Rattle.surw_cli.specs.Counts.{IsUncounted}
use Rattle.surw_cli.specs.Planned.{IsRunOf, status_of_run}
use Rattle.surw_cli.specs.Saved.{saved_file}
use Rattle.surw_cli.specs.declared.status.Status.{Status}

-- the bytes are a scenario; the run of its plan is printed, and saved where a name is given, and the run's end is the status
pub record IsPlanReport (choice : Choice) (save : Option (List ℕ)) (bytes : List ℕ) (status : Status) (text : List ℕ) (saved : Option CreatedFile) : Type 0 where
  pub scenario : ScenarioState
  pub form : scenario_of bytes ≡ Ok scenario
  pub outcome : Outcome
  pub run : IsRunOf scenario choice outcome
  pub printed : text ≡ report_text outcome
  pub ends : status ≡ status_of_run outcome
  pub kept : saved ≡ saved_file save bytes outcome.journal

-- they are a scenario whose counts were asked of a profile, which has none for this cause
pub record HasNoCounts (choice : Choice) (bytes : List ℕ) (fault : ProfileFault) : Type 0 where
  pub scenario : ScenarioState
  pub form : scenario_of bytes ≡ Ok scenario
  pub stopped : IsUncounted scenario choice fault

-- the bytes have no plan, for this cause
abbrev pub IsUnplanned : Choice → List ℕ → Fault → Type 0
IsUnplanned choice bytes (Scenario fault) = scenario_of bytes ≡ Err fault
IsUnplanned choice bytes ProfileStepLimit = HasNoCounts choice bytes profile.StepLimit
IsUnplanned choice bytes (ProfileDeadlock step) = HasNoCounts choice bytes (profile.Deadlock step)
IsUnplanned choice bytes _ = ⊥

-- no two cases hold of one file
abbrev pub plan_answer : Choice → Option (List ℕ) → List ℕ → Answer → Type 0
plan_answer choice save bytes (Report status text saved) = IsPlanReport choice save bytes status text saved
plan_answer choice save bytes (Refusal fault) = IsUnplanned choice bytes fault
