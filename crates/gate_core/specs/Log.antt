-- A worker's list of its events and replies, and when it is that of a thread of a run.
use Rattle.std.specs.Prelude.{◌≡◌, ℕ, ◌==◌, ◌^◌, ◌<◌, ◌≤◌, List, [], ◌∷◌, length, map, slice_get, slice_index_or, Option, None, Some}
use Rattle.std.specs.List.{filter}
use Rattle.event_class.specs.declared.event.Event.{Event}
use Rattle.routine_kit.specs.declared.routine.Routine.{Ghosts}
use Rattle.run_rules.specs.declared.entry.Entry.{Entry}

-- the routine that it began with, the routine now, the events and replies so far, and the room for them
pub record LogState (R : Type 0) : Type 0 where
  pub start : R
  pub now : R
  pub items : List (Event × ℕ)
  pub room : ℕ

-- each event is what the routine announces after the replies before it, and the routine now is what it is after all of them
unfoldable pub Follows : {R : Type 0} → Ghosts R → R → List (Event × ℕ) → R → Type 0
Follows behaviour start [] now = start ≡ now
Follows behaviour start (item ∷ items) now = (behaviour.announced start ≡ Some item.0) × Follows behaviour (behaviour.after_reply start item.1) items now

-- what is true of every log, where its items have this capacity: they follow from its routine, and there is room for all
pub record IsLog {R : Type 0} (behaviour : Ghosts R) (log : LogState R) (capacity : ℕ) : Type 0 where
  pub follows : Follows behaviour log.start log.items log.now
  pub within : length log.items ≤ log.room
  pub reserved : log.room ≤ capacity
  pub small : log.room < 2 ^ 32

-- the events and replies of a thread
unfoldable pub made_by : ℕ → List Entry → List (Event × ℕ)
made_by thread journal = map (λ entry. (entry.event, entry.reply)) (filter (λ entry. entry.thread == thread) journal)

-- the log is that of the thread in a run: its items are the thread's entries, and the thread's last word is what it announces
pub record IsOwn {R : Type 0} (behaviour : Ghosts R) (journal : List Entry) (words : List (Option Event)) (thread : ℕ) (log : LogState R) : Type 0 where
  pub follows : Follows behaviour log.start log.items log.now
  pub items : log.items ≡ made_by thread journal
  pub word : slice_index_or words thread None ≡ behaviour.announced log.now

-- the log has so many items, which follow from its routine, and this is what it announces now
pub record EndsAt {R : Type 0} (behaviour : Ghosts R) (log : LogState R) (made : ℕ) (word : Option Event) : Type 0 where
  pub follows : Follows behaviour log.start log.items log.now
  pub count : length log.items ≡ made
  pub says : word ≡ behaviour.announced log.now

-- each log is that of its thread
abbrev pub AreOwn : {R : Type 0} → Ghosts R → List Entry → List (Option Event) → List (LogState R) → Type 0
AreOwn behaviour journal words logs = (thread : ℕ) (log : LogState _) → slice_get logs thread ≡ Some log → IsOwn behaviour journal words thread log
