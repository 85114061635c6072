-- The parts of a run.
use Rattle.std.specs.Prelude.{◌≡◌, ℕ, ◌≤◌, List, [], ◌∷◌, length, Option, None, Some, if◌then◌else◌}
use Rattle.surw_base.specs.declared.limits.TheConstants.{MONITORS, STEPS}
use Rattle.test_world.specs.declared.monitor.Monitor.{Monitor}
use Rattle.test_world.specs.declared.monitor.Monitor.TheVariants.{CellEnd}
use Rattle.test_world.specs.Monitor.{is_failing}
use Rattle.test_world.specs.World.{WorldState}
use Rattle.run_rules.specs.declared.entry.Entry.{Entry}
use Rattle.run_rules.specs.declared.verdict.Verdict.{Verdict}
use Rattle.run_rules.specs.MonitorFailures.{is_ended}

-- what holds of every run
pub record IsRunInside (journal : List Entry) (monitors : List Monitor) (failed : List (Option ℕ)) : Type 0 where
  pub short : length journal ≤ STEPS
  pub few : length monitors ≤ MONITORS
  pub each : length failed ≡ length monitors

-- where a monitor of a cell fails at the end, and the place so far of any other
abbrev pub place_at_end : WorldState → ℕ → Verdict → Option ℕ → Monitor → Option ℕ
place_at_end world steps verdict place (CellEnd cell value) =
    if is_ended verdict then (if is_failing world (CellEnd cell value) then Some steps else None) else place
place_at_end world steps verdict place monitor = place

-- the places of the monitors at the end
unfoldable pub at_end : WorldState → ℕ → Verdict → List (Option ℕ) → List Monitor → List (Option ℕ)
at_end world steps verdict [] monitors = []
at_end world steps verdict (place ∷ places) [] = place ∷ at_end world steps verdict places []
at_end world steps verdict (place ∷ places) (monitor ∷ monitors) =
    place_at_end world steps verdict place monitor ∷ at_end world steps verdict places monitors
