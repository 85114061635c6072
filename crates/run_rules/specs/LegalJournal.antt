-- Legal journals.
use Rattle.std.specs.Prelude.{◌≡◌, ℕ, List, IsTrue, Some, take, slice_get}
use Rattle.test_world.specs.World.{new_world, is_enabled, reply}
use Rattle.run_rules.specs.declared.entry.Entry.{Entry}
use Rattle.run_rules.specs.Journal.{world_after}
use Rattle.run_rules.specs.Replies.{announcement}
use Rattle.run_rules.specs.Setup.{Script}

-- an entry that can follow a journal: its thread announces the event, the event is enabled, and the reply is the
-- world's. The forced mark is free
pub record IsLegalNext (script : Script) (journal : List Entry) (entry : Entry) : Type 0 where
  pub announced : announcement script journal entry.thread ≡ Some entry.event
  pub enabled : IsTrue (is_enabled (world_after (new_world script.setup.size) journal) entry.event)
  pub replied : entry.reply ≡ reply (world_after (new_world script.setup.size) journal) entry.thread entry.event

-- each entry can follow those before it
abbrev pub IsLegal : Script → List Entry → Type 0
IsLegal script journal = (k : ℕ) (entry : Entry) → slice_get journal k ≡ Some entry → IsLegalNext script (take k journal) entry
