-- The selected events of a journal: how many a thread made, and their order.
use Rattle.std.specs.Prelude.{ℕ, ◌==◌, ◌&&◌, List, map}
use Rattle.std.specs.List.{count_by, filter}
use Rattle.event_class.specs.declared.pickable.Pickable.{Pickable}
use Rattle.event_class.specs.Selection.{has}
use Rattle.run_rules.specs.declared.entry.Entry.{Entry}

-- how many selected events of a thread a journal has
unfoldable pub events_made : List Pickable → List Entry → ℕ → ℕ
events_made selection journal thread = count_by (λ entry. has selection entry.event && (entry.thread == thread)) journal

-- the threads of the selected entries, in order
unfoldable pub selected_order : List Pickable → List Entry → List ℕ
selected_order selection journal = map (λ entry. entry.thread) (filter (λ entry. has selection entry.event) journal)
