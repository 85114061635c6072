-- What is counted in a journal.
use Rattle.std.specs.Prelude.{ℕ, ◌==◌, not, List, drop}
use Rattle.std.specs.List.{count_by, zip}
use Rattle.event_class.specs.declared.pickable.Pickable.{Pickable}
use Rattle.event_class.specs.Selection.{has}
use Rattle.run_rules.specs.declared.entry.Entry.{Entry}

-- how many entries are selected
unfoldable pub selected_count : List Pickable → List Entry → ℕ
selected_count selection journal = count_by (λ entry. has selection entry.event) journal

-- how many entries are forced
unfoldable pub forced_count : List Entry → ℕ
forced_count journal = count_by (λ entry. entry.forced) journal

-- each entry but the last, with the one behind it
abbrev pub neighbours : List Entry → List (Entry × Entry)
neighbours journal = zip journal (drop 1 journal)

-- how many entries have another thread than the entry before
unfoldable pub switches : List Entry → ℕ
switches journal = count_by (λ pair. not (pair.0.thread == pair.1.thread)) (neighbours journal)
