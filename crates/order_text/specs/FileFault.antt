-- Which files are refused for their form, and how.
use Rattle.std.specs.Prelude.{◌≡◌, ◌⊎◌, ℕ, ◌+◌, ◌<◌, List, [], length, slice_index_or}
use Rattle.order_text.specs.declared.file_fault.FileFault.{FileFault}
use Rattle.order_text.specs.declared.file_fault.FileFault.TheVariants.{Lines, OutOfMemory}
use Rattle.surw_base.specs.declared.list.ListFault.{ListFault}
use Rattle.surw_base.specs.declared.list.ListFault.TheVariants as list

-- so many lines are asked for, and it is told of each place, from 0, which line has to stand there: this is
-- the number, from 1, of the first that isn't so, is missing or follows the last
pub record IsFirstWrongLine (IsAsked : ℕ → List ℕ → Type 0) (many : ℕ) (lines : List (List ℕ)) (number : ℕ) : Type 0 where
  pub place : ℕ
  pub numbered : number ≡ place + 1
  pub due : (place < many) ⊎ (place < length lines)
  pub before : (earlier : ℕ) → earlier < place → (earlier < length lines) × IsAsked earlier (slice_index_or lines earlier [])
  pub wrong : place < length lines → IsAsked place (slice_index_or lines place []) → ⊥

-- a file is refused so, where this is said of the number of its first wrong line
abbrev pub IsOtherFile : (ℕ → Type 0) → FileFault → Type 0
IsOtherFile IsWrong (Lines number) = IsWrong number
IsOtherFile IsWrong OutOfMemory = Unit {0}

-- what a line that lists no numbers makes of the file
abbrev pub fault_at : ListFault → ℕ → FileFault
fault_at list.Form number = Lines number
fault_at list.OutOfMemory number = OutOfMemory
