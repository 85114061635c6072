-- The answer over a file, where it is told what is made of the file's bytes.
use Rattle.std.specs.Prelude.{◌≡◌, ℕ, ◌≤◌, List, Option, Some, length}
use Rattle.fault_text.specs.declared.fault.Fault.TheVariants.{Read, TooLong}
use Rattle.surw_io.specs.Content.{Entry, Missing, IsFileOf}
use Rattle.surw_io.specs.Fetch.{IsLongerThan}
use Rattle.surw_cli.specs.Answer.{Answer, Refusal}

-- what a shelf gives for a name, where it tells it
abbrev pub Coming : Type 0
Coming = List ℕ → Option Entry

-- the file is there and has at most so many bytes, and these are they
pub record HasFile (limit : ℕ) (coming : Option Entry) (bytes : List ℕ) : Type 0 where
  pub held : IsFileOf coming bytes
  pub short : length bytes ≤ limit

-- the file isn't there, it is too long, or the answer is made of its bytes
pub data IsFileAnswer (limit : ℕ) (IsMade : List ℕ → Answer → Type 0) (coming : Option Entry) (answer : Answer) : Type 0 where
  Absent : coming ≡ Some Missing → answer ≡ Refusal Read → IsFileAnswer limit IsMade coming answer
  Long : IsLongerThan limit coming → answer ≡ Refusal (TooLong limit) → IsFileAnswer limit IsMade coming answer
  Held : (bytes : List ℕ) → HasFile limit coming bytes → IsMade bytes answer → IsFileAnswer limit IsMade coming answer
