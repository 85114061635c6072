-- A log device as contracts see it, and the words in which its events are told. Slots are numbered from 1.
use Rattle.std.specs.Prelude.{◌≡◌, ◌≤◌, ℕ, ◌-◌, Bool, ◌&&◌, List, [], length, take, slice_index_or, nat_le, is_some, is_none, Option, None}
use Rattle.std.specs.List.{list_all, count_by}
use Rattle.surw_base.specs.declared.limits.TheConstants.{SLOTS}

-- how many slots there are, what each reserved slot holds (nothing where it is empty), and the mark
pub record LogState : Type 0 where
  pub slots : ℕ
  pub reserved : List (Option ℕ)
  pub mark : ℕ

-- the log of these parts
abbrev pub log_of : ℕ → List (Option ℕ) → ℕ → LogState
log_of slots reserved mark = record { slots = slots; reserved = reserved; mark = mark }

-- a log as a test begins: no slot is reserved, and the mark is 0
abbrev pub new_log : ℕ → LogState
new_log slots = log_of slots [] 0

-- what a slot holds
abbrev pub held_in : LogState → ℕ → Option ℕ
held_in log slot = slice_index_or log.reserved (slot - 1) None

-- whether a slot is reserved and empty
abbrev pub is_empty : LogState → ℕ → Bool
is_empty log slot = nat_le slot (length log.reserved) && is_none (held_in log slot)

-- whether no slot from 1 to the mark is empty
abbrev pub is_whole : LogState → Bool
is_whole log = list_all is_some (take log.mark log.reserved)

-- how many slots from 1 to the mark are empty
abbrev pub empty_slots : LogState → ℕ
empty_slots log = count_by is_none (take log.mark log.reserved)

-- what is true of every log: no more slots are reserved than there are, and the mark isn't above them
pub record IsSound (log : LogState) : Type 0 where
  pub slots : log.slots ≤ SLOTS
  pub reserved : length log.reserved ≤ log.slots
  pub mark : log.mark ≤ length log.reserved

-- there is room for all slots, and so many of those up to the mark are empty
pub record IsKept (capacity count : ℕ) (log : LogState) : Type 0 where
  pub room : log.slots ≤ capacity
  pub empty : count ≡ empty_slots log
  pub sound : IsSound log
