-- The answer of the job `replay` to the bytes of its file, where it is told what the shelf gives for the saved file.
use Rattle.std.specs.Prelude.{◌≡◌, ◌≢◌, ℕ, List, Option, None, Ok, Err}
use Rattle.fault_text.specs.declared.fault.Fault.TheVariants.{OtherScenario, Replay, Scenario}
use Rattle.replay_text.specs.Reading.{saved_of}
use Rattle.replay_text.specs.SavedRun.{SavedRun}
use Rattle.report_text.specs.Report.{report_text}
use Rattle.routine_kit.specs.declared.any_routine.AnyRoutine.{AnyRoutine}
use Rattle.run_rules.specs.Run.{IsRun, Outcome}
use Rattle.run_rules.specs.declared.plan.Plan.{Plan}
use Rattle.scenario_toml.specs.FollowPlan.{IsFollowPlanOf}
use Rattle.scenario_toml.specs.Scenario.{scenario_of}
use Rattle.scenario_toml.specs.State.{ScenarioState}
use Rattle.scenario_toml.specs.declared.fault.ScenarioFault.{ScenarioFault}
use Rattle.seed_draws.specs.declared.any_draws.AnyDraws.{AnyDraws}
use Rattle.sha2.specs.Sha256.{sha256}
use Rattle.surw_base.specs.declared.limits.TheConstants.{SAVED_LIMIT}
use Rattle.surw_io.specs.Content.{Entry}
use Rattle.surw_cli.specs.Answer.{Answer, Report, Refusal}
use Rattle.surw_cli.specs.FileAnswer.{HasFile, IsFileAnswer}
use Rattle.surw_cli.specs.Planned.{status_of_run}
use Rattle.surw_cli.specs.Script.{script}
use Rattle.surw_cli.specs.declared.status.Status.{Status}

-- the saved bytes are a run of the scenario, and this is the plan that follows it
pub record IsReplayPlanned (bytes : List ℕ) (scenario : ScenarioState) (saved_bytes : List ℕ) (plan : Plan AnyRoutine AnyDraws AnyDraws) : Type 0 where
  pub saved : SavedRun
  pub form : saved_of saved_bytes ≡ Ok saved
  pub named : saved.name ≡ sha256 bytes
  pub planned : IsFollowPlanOf scenario saved.entries plan

-- the bytes are a scenario, the file that is coming is a run of it, and this is the plan that follows it
pub record IsReplayed (bytes : List ℕ) (coming : Option Entry) (plan : Plan AnyRoutine AnyDraws AnyDraws) : Type 0 where
  pub scenario : ScenarioState
  pub form : scenario_of bytes ≡ Ok scenario
  pub saved_bytes : List ℕ
  pub file : HasFile SAVED_LIMIT coming saved_bytes
  pub planned : IsReplayPlanned bytes scenario saved_bytes plan

-- the run of that plan is printed, and its end is the status
pub record IsReplayReport (bytes : List ℕ) (scenario : ScenarioState) (saved_bytes : List ℕ) (status : Status) (text : List ℕ) : Type 0 where
  pub plan : Plan AnyRoutine AnyDraws AnyDraws
  pub planned : IsReplayPlanned bytes scenario saved_bytes plan
  pub outcome : Outcome
  pub run : IsRun (script plan) outcome
  pub printed : text ≡ report_text outcome
  pub ends : status ≡ status_of_run outcome

-- the saved bytes are a run of another scenario
pub record IsOfOther (bytes saved_bytes kept needed : List ℕ) : Type 0 where
  pub saved : SavedRun
  pub form : saved_of saved_bytes ≡ Ok saved
  pub kept_is : kept ≡ saved.name
  pub needed_is : needed ≡ sha256 bytes
  pub differ : saved.name ≢ sha256 bytes

-- the answer to the bytes of the saved file; no two cases hold of one
abbrev pub replayed_answer : List ℕ → ScenarioState → List ℕ → Answer → Type 0
replayed_answer bytes scenario saved_bytes (Report status text None) = IsReplayReport bytes scenario saved_bytes status text
replayed_answer bytes scenario saved_bytes (Refusal (Replay fault)) = saved_of saved_bytes ≡ Err fault
replayed_answer bytes scenario saved_bytes (Refusal (OtherScenario kept needed)) = IsOfOther bytes saved_bytes kept needed
replayed_answer bytes scenario saved_bytes _ = ⊥

-- the bytes are no scenario, or the saved file is answered
pub data IsReplayAnswer (bytes : List ℕ) (coming : Option Entry) (answer : Answer) : Type 0 where
  NoScenario : (fault : ScenarioFault) → scenario_of bytes ≡ Err fault → answer ≡ Refusal (Scenario fault) → IsReplayAnswer bytes coming answer
  OfSaved : (scenario : ScenarioState) → scenario_of bytes ≡ Ok scenario → IsFileAnswer SAVED_LIMIT (replayed_answer bytes scenario) coming answer
      → IsReplayAnswer bytes coming answer
