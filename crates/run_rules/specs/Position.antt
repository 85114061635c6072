-- Positions: a journal with a last word for each thread.
use Rattle.std.specs.Prelude.{ℕ, List, [], ◌∷◌, length, map, take, drop, slice_set, Option, None, Some, if◌then◌else◌}
use Rattle.std.specs.List.{range_with_len}
use Rattle.event_class.specs.declared.event.Event.{Event}
use Rattle.event_class.specs.declared.pickable.Pickable.{Pickable}
use Rattle.event_class.specs.Selection.{has}
use Rattle.test_world.specs.World.{WorldState, new_world, is_enabled}
use Rattle.walk_rules.specs.declared.seen.Seen.{Seen}
use Rattle.walk_rules.specs.declared.seen.Seen.TheVariants.{Over, Held, Able}
use Rattle.run_rules.specs.declared.entry.Entry.{Entry}
use Rattle.run_rules.specs.Journal.{world_after}
use Rattle.run_rules.specs.Replies.{announcement}
use Rattle.run_rules.specs.Setup.{Setup, Script}

-- the word of a thread is the event that it announces, or nothing where it has ended
pub record Position : Type 0 where
  pub journal : List Entry
  pub words : List (Option Event)

-- the words before some entries: the event of the thread's first entry among them, or its last word
unfoldable pub words_before : List Entry → List (Option Event) → List (Option Event)
words_before [] words = words
words_before (entry ∷ entries) words = slice_set (words_before entries words) entry.thread (Some entry.event)

-- the position before the entry at a place
unfoldable pub position_at : Position → ℕ → Position
position_at x k = record { journal = take k x.journal; words = words_before (drop k x.journal) x.words }

-- the positions before each entry
unfoldable pub earlier : Position → List Position
earlier x = map (position_at x) (range_with_len 0 (length x.journal))

-- the position of a script after a journal
unfoldable pub position_of : Script → List Entry → Position
position_of script journal = record { journal = journal; words = map (announcement script journal) (range_with_len 0 script.setup.threads) }

-- the world at a position
abbrev pub world_at : Setup → Position → WorldState
world_at setup x = world_after (new_world setup.size) x.journal

-- what is seen of a thread with this word: it is able where its event is enabled
abbrev pub seen_word : WorldState → List Pickable → Option Event → Seen
seen_word world selection None = Over
seen_word world selection (Some event) = if is_enabled world event then Able (has selection event) else Held (has selection event)

-- what is seen of the threads at a position
unfoldable pub seen_at : Setup → Position → List Seen
seen_at setup x = map (seen_word (world_at setup x) setup.selection) x.words
