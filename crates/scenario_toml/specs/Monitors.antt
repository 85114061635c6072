-- The key `monitors`.
use Rattle.std.specs.Prelude.{List, [], ◌∷◌, ℕ, ◌+◌, ltb, Result, Ok, Err, codes, if◌then◌else◌}
use Rattle.toml.specs.Data.{Data}
use Rattle.test_world.specs.declared.monitor.Monitor.{Monitor}
use Rattle.test_world.specs.declared.monitor.Monitor.TheVariants as monitor
use Rattle.scenario_toml.specs.declared.fault.ScenarioFault.{ScenarioFault}
use Rattle.scenario_toml.specs.declared.fault.ScenarioFault.TheVariants.{Name}
use Rattle.scenario_toml.specs.declared.watch.Watch.{Watch}
use Rattle.scenario_toml.specs.declared.watch.Watch.TheVariants.{WriteAhead, LogWhole, Expect, CellEnd}
use Rattle.scenario_toml.specs.Faults.{and_then}
use Rattle.scenario_toml.specs.Keys.{key_at}
use Rattle.scenario_toml.specs.Values.{text_item}
use Rattle.scenario_toml.specs.Texts.{watch_of, watch_text}

-- what is watched for, whose cell need not be there yet
abbrev pub watch_item : List ℕ → ℕ → Data → Result Watch ScenarioFault
watch_item = text_item watch_of

-- the monitor of it, in a world of so many cells
abbrev pub monitor_of : ℕ → ℕ → Watch → Result Monitor ScenarioFault
monitor_of cells place WriteAhead = Ok monitor.WriteAhead
monitor_of cells place LogWhole = Ok monitor.LogWhole
monitor_of cells place Expect = Ok monitor.Expect
monitor_of cells place (CellEnd cell value) =
    if ltb cell cells
    then Ok (monitor.CellEnd cell value)
    else Err (Name (key_at (codes "monitors") place) (watch_text (CellEnd cell value)))

-- the monitors in order
unfoldable pub monitors_from : ℕ → ℕ → List Watch → Result (List Monitor) ScenarioFault
monitors_from cells place [] = Ok []
monitors_from cells place (watch ∷ watches) =
    and_then (monitor_of cells place watch) (λ monitor.
    and_then (monitors_from cells (place + 1) watches) (λ monitors.
    Ok (monitor ∷ monitors)))
