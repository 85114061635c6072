-- What a fetch leaves, and why it is refused.
use Rattle.std.specs.Prelude.{◌≡◌, ◌⊎◌, ℕ, ◌+◌, ◌<◌, ◌≤◌, List, length, Option, Some, None, Result, Ok, Err}
use Rattle.surw_io.specs.Cause.{Rose}
use Rattle.surw_io.specs.Content.{Entry, File, Missing, content_of, with_prefix, IsAtEnd}
use Rattle.surw_io.specs.declared.whole_file.FetchFault.{FetchFault}
use Rattle.surw_io.specs.declared.whole_file.FetchFault.TheVariants.{Failed, TooLong, OutOfMemory}

-- the file is there and, where it is told, longer than the limit
abbrev pub IsLongerThan : ℕ → Option Entry → Type 0
IsLongerThan limit None = Unit {0}
IsLongerThan limit (Some (File bytes)) = limit < length bytes
IsLongerThan limit (Some Missing) = ⊥

-- the fetch is refused so, with this file coming and the count of faults going from `before` to `now`
abbrev pub IsRefused : Option Entry → ℕ → ℕ → ℕ → FetchFault → Type 0
IsRefused coming limit before now Failed = Rose before now ⊎ (coming ≡ Some Missing)
IsRefused coming limit before now (TooLong taken) = (taken ≡ limit + 1) × IsLongerThan limit coming × (now ≡ before)
IsRefused coming limit before now OutOfMemory = now ≡ before

-- no more than `most` bytes were taken from the front of what was told
pub record TookAtMost (most : ℕ) (told left : Option (List ℕ)) : Type 0 where
  pub prefix : List ℕ
  pub few : length prefix ≤ most
  pub rest : told ≡ with_prefix prefix left

-- what the file has left: nothing after a whole fetch, and never less than all but one more than the limit, unless the open failed
abbrev pub LeavesRest : {A : Type 0} → Option Entry → ℕ → Option (List ℕ) → Result A FetchFault → Type 0
LeavesRest coming limit left (Ok _) = IsAtEnd left
LeavesRest coming limit left (Err Failed) = TookAtMost (limit + 1) (content_of coming) left ⊎ IsAtEnd left
LeavesRest coming limit left (Err (TooLong taken)) = TookAtMost (limit + 1) (content_of coming) left
LeavesRest coming limit left (Err OutOfMemory) = TookAtMost (limit + 1) (content_of coming) left
