-- A scenario as it is kept, seen as the values of its keys.
use Rattle.scenario_toml.specs.declared.scenario.Scenario.TheInside.{Inside}
use Rattle.scenario_toml.specs.State.{ScenarioState}

abbrev pub state_of : Inside → ScenarioState
state_of s = record {
  strategy = s.strategy;
  seed = s.seed;
  depth = s.depth;
  max_steps = s.max_steps;
  select = s.select;
  counts = s.counts;
  monitors = s.monitors.items;
  size = s.size;
  tapes = s.tapes;
  routines = s.routines.items;
}
