-- The shelf in memory: what it holds, and what its calls answer.
use Rattle.std.specs.Prelude.{◌≡◌, ◌==◌, ◌&&◌, ◌||◌, Bool, ℕ, ◌-◌, ◌≤◌, ◌<◌, min, nat_lt, if◌then◌else◌, List, [], length, map, drop, find, slice_index_or, Option, Some, None, option_map, String, Vec, string_bytes, bytes_eq}
use Rattle.std.specs.declared.alloc.Global.{Global}
use Rattle.surw_io.specs.Calls.{is_listed}
use Rattle.surw_io.specs.Cause.{one_more}
use Rattle.surw_io.specs.Content.{Entry, File, Missing}
use Rattle.surw_io.specs.Made.{Made, file_made, more_made}
use Rattle.surw_io.specs.MadeFile.{name_room, room_left}

-- what it holds: the files by name, what is left of the opened one, what was made, the most bytes of a created file and of one read or write, the calls that fail, and its counts
pub record ShelfState : Type 0 where
  pub files : List (List ℕ × List ℕ)
  pub left : List ℕ
  pub made : Made
  pub room : ℕ
  pub piece : ℕ
  pub fails : List ℕ
  pub calls : ℕ
  pub in_faults : ℕ
  pub out_faults : ℕ
  pub opens : ℕ

-- the bytes of each name with those of its file
abbrev pub named_bytes : List (String Global × Vec ℕ Global) → List (List ℕ × List ℕ)
named_bytes files = map (λ file. (string_bytes file.0, file.1.items)) files

-- the first file of a name
abbrev pub file_of : List (List ℕ × List ℕ) → List ℕ → Option (List ℕ)
file_of files name = option_map (λ file. file.1) (find (λ file. bytes_eq file.0 name) files)

-- what is there, where a file may be missing
abbrev pub entry : Option (List ℕ) → Entry
entry None = Missing
entry (Some bytes) = File bytes

-- what the next open of a name gives, `None` where it fails
abbrev pub open_gives : ShelfState → List ℕ → Option (List ℕ)
open_gives shelf name = if is_listed shelf.fails shelf.calls then None else file_of shelf.files name

-- how many bytes the next read moves where this many are asked, `None` where it fails
abbrev pub read_gives : ShelfState → ℕ → Option ℕ
read_gives shelf asked =
    if is_listed shelf.fails shelf.calls then None else Some (min (min asked shelf.piece) (length shelf.left))

-- the faults of opens and reads after the next of them
abbrev pub faults_after : ShelfState → ℕ
faults_after shelf = if is_listed shelf.fails shelf.calls then one_more shelf.in_faults else shelf.in_faults

-- the bytes of the file at a place
abbrev pub bytes_at : List (List ℕ × List ℕ) → ℕ → List ℕ
bytes_at files place = (slice_index_or files place ([], [])).1

-- the last bytes of the opened file, of which so many are left
abbrev pub left_at : List (List ℕ × List ℕ) → Option ℕ → ℕ → List ℕ
left_at files None left = []
left_at files (Some place) left = drop (length (bytes_at files place) - left) (bytes_at files place)

-- the opened file is one of these, and no more of it is left than it has
abbrev pub IsPlace : List (List ℕ × List ℕ) → Option ℕ → ℕ → Type 0
IsPlace files None left = left ≡ 0
IsPlace files (Some place) left = (place < length files) × (left ≤ length (bytes_at files place))

-- an open left so many bytes to read
abbrev pub opened : ShelfState → List ℕ → ShelfState
opened shelf left = record shelf { left = left; calls = one_more shelf.calls; in_faults = faults_after shelf; opens = one_more shelf.opens }

-- a read left so many bytes to read
abbrev pub read_on : ShelfState → List ℕ → ShelfState
read_on shelf left = record shelf { left = left; calls = one_more shelf.calls; in_faults = faults_after shelf }

-- the next create fails where it is of this name
abbrev pub create_fails : ShelfState → List ℕ → Bool
create_fails shelf name = is_listed shelf.fails shelf.calls || nat_lt name_room (length name)

-- how many bytes the next write takes where this many are offered, `None` where it fails
abbrev pub write_gives : ShelfState → ℕ → Option ℕ
write_gives shelf offered =
    if is_listed shelf.fails shelf.calls || (room_left shelf.room shelf.made == 0 && nat_lt 0 offered)
    then None
    else Some (min (min offered shelf.piece) (room_left shelf.room shelf.made))

-- a create made the empty file of this name
abbrev pub started : ShelfState → List ℕ → ShelfState
started shelf name = record shelf { made = file_made shelf.made name []; calls = one_more shelf.calls }

-- a write took these bytes
abbrev pub wrote : ShelfState → List ℕ → ShelfState
wrote shelf bytes = record shelf { made = more_made shelf.made bytes; calls = one_more shelf.calls }

-- a create or a write failed
abbrev pub refused : ShelfState → ShelfState
refused shelf = record shelf { calls = one_more shelf.calls; out_faults = one_more shelf.out_faults }
