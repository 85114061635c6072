-- A run that was saved, and the run that follows what was saved.
use Rattle.std.specs.Prelude.{◌≡◌, ℕ, List}
use Rattle.replay_text.specs.SavedRun.{IsSavedRun}
use Rattle.replay_text.specs.SavedText.{saved_text}
use Rattle.routine_kit.specs.declared.any_routine.AnyRoutine.{AnyRoutine}
use Rattle.run_rules.specs.Replay.{IsKeptVerdict, unforced}
use Rattle.run_rules.specs.Run.{IsRun, Outcome}
use Rattle.run_rules.specs.declared.plan.Plan.{Plan}
use Rattle.scenario_toml.specs.State.{ScenarioState}
use Rattle.scenario_toml.specs.declared.choice.Choice.{Choice}
use Rattle.seed_draws.specs.declared.any_draws.AnyDraws.{AnyDraws}
use Rattle.surw_cli.specs.Planned.{IsRunOf}
use Rattle.surw_cli.specs.ReplayAnswer.{IsReplayPlanned}
use Rattle.surw_cli.specs.Saved.{saved_run}
use Rattle.surw_cli.specs.Script.{script}

-- one run repeats another: the same threads, events and replies, with no entry forced, the same world and last words; and
-- where a replay has the verdict too, the same verdict, and each monitor failed at the same place
pub record Repeats (outcome again : Outcome) : Type 0 where
  pub journal : again.journal ≡ unforced outcome.journal
  pub world : again.world ≡ outcome.world
  pub words : again.words ≡ outcome.words
  pub verdict : IsKeptVerdict outcome.verdict → again.verdict ≡ outcome.verdict
  pub failed : IsKeptVerdict outcome.verdict → again.failed ≡ outcome.failed

-- the run of the scenario that is in these bytes, under any choice, is repeated by the run that follows its saved text
abbrev pub SavedRunsRepeat : Type 0
SavedRunsRepeat =
    (bytes : List ℕ) (scenario : ScenarioState) (choice : Choice) (outcome again : Outcome) (plan : Plan AnyRoutine AnyDraws AnyDraws) → IsRunOf scenario choice outcome
    → IsSavedRun (saved_run bytes outcome.journal) → IsReplayPlanned bytes scenario (saved_text (saved_run bytes outcome.journal)) plan
    → IsRun (script plan) again → Repeats outcome again
