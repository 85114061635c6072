-- Selections of events.
use Rattle.std.specs.Prelude.{ℕ, ◌==◌, ◌&&◌, Bool, true, false, List, Option, None, Some}
use Rattle.std.specs.List.{list_any}
use Rattle.event_class.specs.declared.event.Class.{Class}
use Rattle.event_class.specs.declared.event.Class.TheVariants.{Lock, Cell, Cache, Disk, Log, Check}
use Rattle.event_class.specs.declared.event.Event.{Event}
use Rattle.event_class.specs.declared.pickable.Pickable.{Pickable}
use Rattle.event_class.specs.declared.pickable.Pickable.TheVariants.{Every, Of, LockNo, CellNo}
use Rattle.event_class.specs.Event.{class, lock_or_cell}

-- the place of a class in their order
abbrev pub class_no : Class → ℕ
class_no Lock = 0
class_no Cell = 1
class_no Cache = 2
class_no Disk = 3
class_no Log = 4
class_no Check = 5

-- whether the event is of the class
abbrev pub is_of : Class → Event → Bool
is_of wanted event = class_no (class event) == class_no wanted

-- whether this is the number of its lock or cell
abbrev pub is_on : ℕ → Option ℕ → Bool
is_on n None = false
is_on n (Some m) = m == n

-- whether an item takes the event
abbrev pub picks : Pickable → Event → Bool
picks Every event = true
picks (Of wanted) event = is_of wanted event
picks (LockNo l) event = is_of Lock event && is_on l (lock_or_cell event)
picks (CellNo c) event = is_of Cell event && is_on c (lock_or_cell event)

-- whether a list of items takes the event
abbrev pub has : List Pickable → Event → Bool
has items event = list_any (λ item. picks item event) items
