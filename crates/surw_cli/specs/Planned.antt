-- The run that the jobs `plan` and `run` make of a scenario, and the status that its end gives.
use Rattle.std.specs.Prelude.{◌≡◌, ℕ, Bool, List, Ok, is_some, if◌then◌else◌}
use Rattle.std.specs.List.{list_any}
use Rattle.routine_kit.specs.declared.any_routine.AnyRoutine.{AnyRoutine}
use Rattle.run_rules.specs.declared.plan.Plan.{Plan}
use Rattle.run_rules.specs.declared.verdict.Verdict.{Verdict}
use Rattle.run_rules.specs.declared.verdict.Verdict.TheVariants as verdict
use Rattle.run_rules.specs.Run.{IsRun, Outcome}
use Rattle.selected_order.specs.KeepsOrder.{KeepsOrder}
use Rattle.scenario_toml.specs.declared.choice.Choice.{Choice}
use Rattle.scenario_toml.specs.Plan.{IsPlanOf}
use Rattle.scenario_toml.specs.Scenario.{scenario_of}
use Rattle.scenario_toml.specs.State.{ScenarioState}
use Rattle.seed_draws.specs.declared.any_draws.AnyDraws.{AnyDraws}
use Rattle.surw_cli.specs.declared.status.Status.{Status}
use Rattle.surw_cli.specs.declared.status.Status.TheVariants.{Done, Failing, WrongCount, Asked, StepLimit, Draw}
use Rattle.surw_cli.specs.Counts.{AreCounts}
use Rattle.surw_cli.specs.Script.{script}

-- the bytes are a scenario, and this is its plan under a choice, with its counts
pub record IsPlanned (choice : Choice) (bytes : List ℕ) (plan : Plan AnyRoutine AnyDraws AnyDraws) : Type 0 where
  pub scenario : ScenarioState
  pub form : scenario_of bytes ≡ Ok scenario
  pub counts : List ℕ
  pub counted : AreCounts scenario choice counts
  pub planned : IsPlanOf scenario choice counts plan

-- the run of the scenario's plan under a choice; under SURW it keeps the promise on the order of the selected events
pub record IsRunOf (scenario : ScenarioState) (choice : Choice) (outcome : Outcome) : Type 0 where
  pub counts : List ℕ
  pub counted : AreCounts scenario choice counts
  pub plan : Plan AnyRoutine AnyDraws AnyDraws
  pub planned : IsPlanOf scenario choice counts plan
  pub run : IsRun (script plan) outcome
  pub order : KeepsOrder (script plan) outcome

-- the status of a verdict, where a monitor failed or none did
abbrev pub status_by : Verdict → Bool → Status
status_by verdict.Ended failed = if failed then Failing else Done
status_by (verdict.Deadlock step) failed = Failing
status_by (verdict.WrongCount step thread counted seen) failed = WrongCount
status_by (verdict.Draw step fault) failed = Draw
status_by (verdict.Asked step thread event announced) failed = Asked
status_by (verdict.Left step thread) failed = Asked
status_by (verdict.StepLimit step) failed = StepLimit

-- the status that a run ends with
abbrev pub status_of_run : Outcome → Status
status_of_run outcome = status_by outcome.verdict (list_any is_some outcome.failed)
