-- How the job `replay` stops.
use Rattle.std.proofs.Common.{◌≡◌, ℕ, List, Option, Ok, inl, inr, refl}
use Rattle.scenario_toml.specs.Faults.{IsFaultOf}
use Rattle.scenario_toml.specs.Scenario.{scenario_of}
use Rattle.scenario_toml.specs.State.{ScenarioState}
use Rattle.scenario_toml.specs.declared.fault.ScenarioFault.{ScenarioFault}
use Rattle.scenario_toml.specs.declared.fault.ScenarioFault.TheVariants as scenario
use Rattle.surw_base.specs.declared.limits.TheConstants.{SAVED_LIMIT}
use Rattle.surw_io.specs.Content.{Entry}
use Rattle.surw_cli.specs.FileAnswer.{HasFile, Held, IsFileAnswer}
use Rattle.surw_cli.specs.ReplayAnswer.{IsReplayAnswer, NoScenario, OfSaved, replayed_answer}
use Rattle.surw_cli.specs.Stop.{IsStopAt, IsStopOf, IsUnfetched, stop_of_scenario}
use Rattle.surw_cli.specs.declared.stop.Stop.{Stop}
use Rattle.surw_cli.proofs.Stops.{calm-stop, stop-map, unfetched-stop}

-- what is no scenario
no-scenario : (bytes : List ℕ) (coming : Option Entry) (fault : ScenarioFault) → IsFaultOf (scenario_of bytes) fault → IsStopOf (IsReplayAnswer bytes coming) (stop_of_scenario fault)
no-scenario bytes coming scenario.OutOfMemory is = tt
no-scenario bytes coming scenario.NotToml (inl none) = cc none
no-scenario bytes coming scenario.NotToml (inr is) = NoScenario scenario.NotToml is refl
no-scenario bytes coming (scenario.Missing key) (inl none) = cc none
no-scenario bytes coming (scenario.Missing key) (inr is) = NoScenario (scenario.Missing key) is refl
no-scenario bytes coming (scenario.WrongKind key) (inl none) = cc none
no-scenario bytes coming (scenario.WrongKind key) (inr is) = NoScenario (scenario.WrongKind key) is refl
no-scenario bytes coming (scenario.Unknown key) (inl none) = cc none
no-scenario bytes coming (scenario.Unknown key) (inr is) = NoScenario (scenario.Unknown key) is refl
no-scenario bytes coming (scenario.Range key kept least most) (inl none) = cc none
no-scenario bytes coming (scenario.Range key kept least most) (inr is) = NoScenario (scenario.Range key kept least most) is refl
no-scenario bytes coming (scenario.Name key text) (inl none) = cc none
no-scenario bytes coming (scenario.Name key text) (inr is) = NoScenario (scenario.Name key text) is refl

pub scenario-stop : (bytes : List ℕ) (coming : Option Entry) (count : ℕ) (fault : ScenarioFault) → IsFaultOf (scenario_of bytes) fault
    → IsStopAt (IsReplayAnswer bytes coming) count count (stop_of_scenario fault)
scenario-stop bytes coming count fault is = calm-stop (IsReplayAnswer bytes coming) count count (stop_of_scenario fault) refl (no-scenario bytes coming fault is)

-- a saved file that wasn't fetched
pub unfetched-replay : (bytes : List ℕ) (scenario : ScenarioState) (coming : Option Entry) (before now : ℕ) (stop : Stop) → scenario_of bytes ≡ Ok scenario
    → IsUnfetched SAVED_LIMIT coming before now stop → IsStopAt (IsReplayAnswer bytes coming) before now stop
unfetched-replay bytes scenario coming before now stop form none =
    stop-map (IsFileAnswer SAVED_LIMIT (replayed_answer bytes scenario) coming) (IsReplayAnswer bytes coming) before now stop
    (λ answer made. OfSaved scenario form made) (unfetched-stop SAVED_LIMIT (replayed_answer bytes scenario) coming before now stop none)

-- and one that was, and is no run of the scenario
pub saved-stop : (bytes : List ℕ) (scenario : ScenarioState) (coming : Option Entry) (before now : ℕ) (saved_bytes : List ℕ) (stop : Stop) → scenario_of bytes ≡ Ok scenario
    → HasFile SAVED_LIMIT coming saved_bytes → now ≡ before → IsStopOf (replayed_answer bytes scenario saved_bytes) stop
    → IsStopAt (IsReplayAnswer bytes coming) before now stop
saved-stop bytes scenario coming before now saved_bytes stop form file calm made =
    stop-map (replayed_answer bytes scenario saved_bytes) (IsReplayAnswer bytes coming) before now stop
    (λ answer made. OfSaved scenario form (Held saved_bytes file made)) (calm-stop (replayed_answer bytes scenario saved_bytes) before now stop calm made)
