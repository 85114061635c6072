-- The numbers left: for each thread its count less the selected events that it made.
use Rattle.std.specs.Prelude.{ℕ, ◌-◌, Bool, List, map, if◌then◌else◌}
use Rattle.std.specs.List.{enumerate_from}
use Rattle.event_class.specs.declared.pickable.Pickable.{Pickable}
use Rattle.run_rules.specs.declared.entry.Entry.{Entry}
use Rattle.run_rules.specs.EventsMade.{events_made}
use Rattle.run_rules.specs.Position.{Position}
use Rattle.run_rules.specs.Setup.{Setup}

-- for each thread its count less the events made, and 0 where more were made
unfoldable pub numbers_left : List Pickable → List ℕ → List Entry → List ℕ
numbers_left selection counts journal = map (λ e. e.1 - events_made selection journal e.0) (enumerate_from 0 counts)

-- those at a position
abbrev pub left_at : Setup → Position → List ℕ
left_at setup x = numbers_left setup.selection setup.counts x.journal

-- those that a strategy has left: the counts, where it takes nothing from them
abbrev pub left_by : Bool → Setup → Position → List ℕ
left_by counting setup x = if counting then left_at setup x else setup.counts
