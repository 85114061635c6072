-- Looking at the monitors of one world.
use Rattle.std.specs.Prelude.{ℕ, List, [], ◌∷◌, Option, None, Some, if◌then◌else◌}
use Rattle.std.specs.Option.{option_or}
use Rattle.test_world.specs.declared.monitor.Monitor.{Monitor}
use Rattle.test_world.specs.declared.monitor.Monitor.TheVariants.{CellEnd}
use Rattle.test_world.specs.Monitor.{is_failing}
use Rattle.test_world.specs.World.{WorldState}

-- the step, where a monitor fails in this world; one of a cell isn't looked at
abbrev pub failed_in : WorldState → ℕ → Monitor → Option ℕ
failed_in world step (CellEnd cell value) = None
failed_in world step monitor = if is_failing world monitor then Some step else None

-- the places of the monitors, with those that fail now and didn't before
unfoldable pub failed_then : WorldState → ℕ → List (Option ℕ) → List Monitor → List (Option ℕ)
failed_then world step [] monitors = []
failed_then world step (place ∷ places) [] = place ∷ failed_then world step places []
failed_then world step (place ∷ places) (monitor ∷ monitors) =
    option_or place (failed_in world step monitor) ∷ failed_then world step places monitors
