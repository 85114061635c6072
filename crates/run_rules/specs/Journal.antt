-- Journals: the entries of a run, and the world that they lead to.
use Rattle.std.specs.Prelude.{List, [], ◌∷◌}
use Rattle.test_world.specs.World.{WorldState, after}
use Rattle.run_rules.specs.declared.entry.Entry.{Entry}

-- the world after a journal: its events are made one after another
unfoldable pub world_after : WorldState → List Entry → WorldState
world_after world [] = world
world_after world (entry ∷ entries) = world_after (after world entry.thread entry.event) entries
