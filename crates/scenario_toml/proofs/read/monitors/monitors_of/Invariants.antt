use Rattle.std.proofs.Common.{◌≡◌, All, length, drop}
use Rattle.test_world.specs.Monitor.{CanWatch}
use Rattle.test_world.specs.declared.size.WorldSize.{WorldSize}
use Rattle.scenario_toml.proofs.Items.{behind}
use Rattle.scenario_toml.specs.Monitors.{monitors_from}
use Rattle.scenario_toml.proofs.read.monitors.monitors_of.Given as goal

abbrev pub invariant-loop-place : goal.invariant-loop-place
invariant-loop-place l = record {
  so_far : behind l.monitors.items (monitors_from l.cells l.place (drop l.place l.watches)) ≡ monitors_from l.cells 0 l.watches;
  watched : (size : WorldSize) → size.cells ≡ l.cells → All (CanWatch size) l.monitors.items;
  many : length l.monitors.items ≡ l.place;
}
