-- The table `world`.
use Rattle.std.specs.Prelude.{List, ℕ, [], ◌∷◌, Option, None, Some, Result, Ok, codes}
use Rattle.toml.specs.Data.{Members}
use Rattle.test_world.specs.declared.size.WorldSize.{WorldSize}
use Rattle.scenario_toml.specs.declared.fault.ScenarioFault.{ScenarioFault}
use Rattle.scenario_toml.specs.Faults.{and_then}
use Rattle.scenario_toml.specs.Keys.{cells, locks, frames, pages, slots}
use Rattle.scenario_toml.specs.Values.{number_in, only}

-- the keys of the table
abbrev pub world_names : List (List ℕ)
world_names = codes "cells" ∷ codes "locks" ∷ codes "frames" ∷ codes "pages" ∷ codes "slots" ∷ []

-- the keys in their order
unfoldable pub world_in : Members → Result WorldSize ScenarioFault
world_in table =
    and_then (only (codes "world.") world_names table) (λ _.
    and_then (number_in (codes "world.") table cells) (λ cells.
    and_then (number_in (codes "world.") table locks) (λ locks.
    and_then (number_in (codes "world.") table frames) (λ frames.
    and_then (number_in (codes "world.") table pages) (λ pages.
    and_then (number_in (codes "world.") table slots) (λ slots.
    Ok (record { cells = cells; locks = locks; frames = frames; pages = pages; slots = slots })))))))

-- a world of nothing where there is no table
abbrev pub world : Option Members → Result WorldSize ScenarioFault
world None = Ok (record { cells = 0; locks = 0; frames = 0; pages = 0; slots = 0 })
world (Some table) = world_in table
