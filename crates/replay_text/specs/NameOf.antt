-- The name that a line gives.
use Rattle.std.specs.Prelude.{ℕ, ◌==◌, ◌&&◌, Bool, List, length, drop, Option, None, Some, Result, Ok, Err, if◌then◌else◌}
use Rattle.std.specs.Str.{bytes_eq}
use Rattle.hex.specs.Hex.{decode_of}
use Rattle.hex.specs.declared.error.FromHexError.{FromHexError}
use Rattle.replay_text.specs.SavedText.{name_text}

-- whether this is the text of a name
abbrev pub is_name_text : List ℕ → List ℕ → Bool
is_name_text line name = bytes_eq (name_text name) line && length name == 32

-- these bytes, where the line is their text as a name
abbrev pub name_in : List ℕ → Result (List ℕ) FromHexError → Option (List ℕ)
name_in line (Ok name) = if is_name_text line name then Some name else None
name_in line (Err fault) = None

-- the name of which this is the text: its digits stand behind the nine bytes of `scenario `
unfoldable pub name_of : List ℕ → Option (List ℕ)
name_of line = name_in line (decode_of (drop 9 line))
