use Rattle.std.proofs.Common.{◌≡◌, All, length, drop}
use Rattle.toml.specs.View.{items_view}
use Rattle.scenario_toml.proofs.Items.{behind}
use Rattle.scenario_toml.specs.Values.{each}
use Rattle.scenario_toml.proofs.read.items.read_items.Given as goal

abbrev pub invariant-loop-place : goal.invariant-loop-place
invariant-loop-place g l = record {
  so_far : behind l.items.items (each (g.T.Item.item l.key) l.place (items_view (drop l.place l.array))) ≡ each (g.T.Item.item l.key) 0 (items_view l.array);
  kept : All g.T.Item.IsKept l.items.items;
  many : length l.items.items ≡ l.place;
}
