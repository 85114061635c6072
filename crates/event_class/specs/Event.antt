-- Events: the class of one, the lock or cell that a selection can name, and the text.
use Rattle.std.specs.Prelude.{◌≡◌, ℕ, ◌^◌, ◌<◌, List, [], ◌∷◌, ◌++◌, length, Option, None, Some, All, codes, slice_index}
use Rattle.std.specs.Int.{IsInRange}
use Rattle.surw_base.specs.Lines.{items_text, list_text}
use Rattle.event_class.specs.declared.event.Class.{Class}
use Rattle.event_class.specs.declared.event.Event.{Event}
use Rattle.event_class.specs.declared.event.Event.TheVariants.{Acquire, Release, Load, Store, Add, SwapIf, Find, Claim, Fill, Read, Write, Oldest, Stamp, Flush, Reserve, Put, Mark, Durable, Check}

-- what an event is about
abbrev pub class : Event → Class
class (Acquire l) = Class.Lock
class (Release l) = Class.Lock
class (Load c) = Class.Cell
class (Store c v) = Class.Cell
class (Add c v) = Class.Cell
class (SwapIf c a b) = Class.Cell
class (Find p) = Class.Cache
class (Claim p) = Class.Cache
class (Fill f p) = Class.Disk
class (Read f) = Class.Cache
class (Write f v n) = Class.Cache
class Oldest = Class.Cache
class (Stamp f) = Class.Cache
class (Flush f) = Class.Disk
class Reserve = Class.Log
class (Put s v) = Class.Log
class (Mark n) = Class.Log
class Durable = Class.Log
class (Check a b) = Class.Check

-- the number of its lock or its cell
abbrev pub lock_or_cell : Event → Option ℕ
lock_or_cell (Acquire l) = Some l
lock_or_cell (Release l) = Some l
lock_or_cell (Load c) = Some c
lock_or_cell (Store c v) = Some c
lock_or_cell (Add c v) = Some c
lock_or_cell (SwapIf c a b) = Some c
lock_or_cell _ = None

-- the verb of an event's text, and its numbers
abbrev pub parts_of : Event → List ℕ × List ℕ
parts_of (Acquire l) = (codes "acquire", l ∷ [])
parts_of (Release l) = (codes "release", l ∷ [])
parts_of (Load c) = (codes "load", c ∷ [])
parts_of (Store c v) = (codes "store", c ∷ v ∷ [])
parts_of (Add c v) = (codes "add", c ∷ v ∷ [])
parts_of (SwapIf c a b) = (codes "swap_if", c ∷ a ∷ b ∷ [])
parts_of (Find p) = (codes "find", p ∷ [])
parts_of (Claim p) = (codes "claim", p ∷ [])
parts_of (Fill f p) = (codes "fill", f ∷ p ∷ [])
parts_of (Read f) = (codes "read", f ∷ [])
parts_of (Write f v n) = (codes "write", f ∷ v ∷ n ∷ [])
parts_of Oldest = (codes "oldest", [])
parts_of (Stamp f) = (codes "stamp", f ∷ [])
parts_of (Flush f) = (codes "flush", f ∷ [])
parts_of Reserve = (codes "reserve", [])
parts_of (Put s v) = (codes "put", s ∷ v ∷ [])
parts_of (Mark n) = (codes "mark", n ∷ [])
parts_of Durable = (codes "durable", [])
parts_of (Check a b) = (codes "check", a ∷ b ∷ [])

-- the verb
abbrev pub verb_of : Event → List ℕ
verb_of event = (parts_of event).0

-- the numbers, in the order of the text
abbrev pub numbers_of : Event → List ℕ
numbers_of event = (parts_of event).1

-- each number is below 2 ^ 64
abbrev pub AreSmall : List ℕ → Type 0
AreSmall numbers = All (λ n. n < 2 ^ 64) numbers

-- the text of an event: its verb, then its numbers
abbrev pub event_text : Event → List ℕ
event_text event = list_text (verb_of event) (numbers_of event)

-- the bytes are the text of so many numbers, each below 2 ^ 64
pub record AreNumbersText (count : ℕ) (bytes numbers : List ℕ) : Type 0 where
  pub text : bytes ≡ items_text numbers
  pub many : length numbers ≡ count
  pub below : AreSmall numbers

-- the bytes are the text of the event, whose numbers are below 2 ^ 64
pub record IsEventText (bytes : List ℕ) (event : Event) : Type 0 where
  pub text : bytes ≡ event_text event
  pub below : AreSmall (numbers_of event)

-- the bytes begin with the text of the event, and no digit follows
pub record IsPrinted (bytes : List ℕ) (event : Event) (tail : List ℕ) : Type 0 where
  pub text : bytes ≡ event_text event ++ tail
  pub below : AreSmall (numbers_of event)
  pub apart : IsInRange 48 57 (slice_index tail 0) → ⊥
