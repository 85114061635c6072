-- The file that the shelf in memory created last, in the room that it has.
use Rattle.std.specs.Prelude.{◌==◌, ℕ, ◌-◌, if◌then◌else◌, List, [], length, Some, None, option_map, unwrap_or}
use Rattle.surw_io.specs.Made.{Made}

-- what was made, and the most bytes of the file created last
pub record MadeInRoom : Type 0 where
  pub made : Made
  pub room : ℕ

-- the most bytes of a created file's name
abbrev pub name_room : ℕ
name_room = 4096

-- so many creates were answered, the last for this name, and these bytes were written since
abbrev pub made_of : ℕ → List ℕ → List ℕ → Made
made_of creates name bytes = record { creates = creates; last = if creates == 0 then None else Some (record { name = name; bytes = bytes }) }

-- the bytes that the file created last can still take
abbrev pub room_left : ℕ → Made → ℕ
room_left room made = room - length (unwrap_or (option_map (λ file. file.bytes) made.last) [])
