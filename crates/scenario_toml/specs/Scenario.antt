-- What the bytes of a file stand for: a scenario, or the first fault.
use Rattle.std.specs.Prelude.{ℕ, [], List, length, Option, None, Some, Result, Ok, Err, if◌then◌else◌}
use Rattle.std.specs.Str.{is_utf8}
use Rattle.toml.specs.Data.{Members}
use Rattle.toml.specs.Parse.{parse_document}
use Rattle.scenario_toml.specs.declared.fault.ScenarioFault.{ScenarioFault}
use Rattle.scenario_toml.specs.declared.fault.ScenarioFault.TheVariants.{NotToml}
use Rattle.scenario_toml.specs.Counts.{counts_rule}
use Rattle.scenario_toml.specs.Faults.{and_then}
use Rattle.scenario_toml.specs.Monitors.{monitors_from}
use Rattle.scenario_toml.specs.State.{ScenarioState}
use Rattle.scenario_toml.specs.Tapes.{tapes}
use Rattle.scenario_toml.specs.Thread.{threads}
use Rattle.scenario_toml.specs.TopTable.{top_names, settings, lists, parts}
use Rattle.scenario_toml.specs.Values.{only}
use Rattle.scenario_toml.specs.World.{world}

-- the tree of the bytes
unfoldable pub tree_of : List ℕ → Option Members
tree_of bytes = if is_utf8 bytes then parse_document bytes else None

-- the top table with its keys in order; the table `world`, then `tapes`; each thread; the counts beside the
-- threads; and each monitor beside the world
unfoldable pub scenario_in : Members → Result ScenarioState ScenarioFault
scenario_in table =
    and_then (only [] top_names table) (λ _.
    and_then (settings table) (λ settings.
    and_then (lists table) (λ lists.
    and_then (parts table) (λ parts.
    and_then (world parts.world) (λ size.
    and_then (tapes parts.tapes) (λ tapes.
    and_then (threads parts.threads) (λ routines.
    and_then (counts_rule lists.counts (length routines)) (λ counts.
    and_then (monitors_from size.cells 0 lists.watches) (λ monitors.
    Ok (record {
      strategy = settings.strategy;
      seed = settings.seed;
      depth = settings.depth;
      max_steps = settings.max_steps;
      select = lists.select;
      counts = counts;
      monitors = monitors;
      size = size;
      tapes = tapes;
      routines = routines;
    }))))))))))

abbrev pub scenario_of_tree : Option Members → Result ScenarioState ScenarioFault
scenario_of_tree None = Err NotToml
scenario_of_tree (Some table) = scenario_in table

-- the scenario of the bytes, or the first fault
unfoldable pub scenario_of : List ℕ → Result ScenarioState ScenarioFault
scenario_of bytes = scenario_of_tree (tree_of bytes)
