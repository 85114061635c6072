-- What a saved run is printed as.
use Rattle.std.specs.Prelude.{◌≡◌, ℕ, List, ◌∷◌, ◌++◌, length, codes}
use Rattle.std.specs.List.{flat_map}
use Rattle.std.specs.Fmt.{decimal}
use Rattle.hex.specs.Hex.{encode_lower}
use Rattle.surw_base.specs.Lines.{line}
use Rattle.event_class.specs.Event.{event_text}
use Rattle.walk_rules.specs.declared.asked.Asked.{Asked}
use Rattle.replay_text.specs.SavedRun.{SavedRun, IsEntry, IsName}

-- the first line
abbrev pub header : List ℕ
header = line (codes "surw-replay 1")

-- the text of a name: its bytes in lower-case hexadecimal digits
abbrev pub name_text : List ℕ → List ℕ
name_text name = codes "scenario " ++ encode_lower name

-- the text of an entry: its thread, a space (32) and its event
abbrev pub entry_text : Asked → List ℕ
entry_text entry = decimal entry.thread ++ 32 ∷ event_text entry.event

-- the text of the end behind so many entries
abbrev pub end_text : ℕ → List ℕ
end_text count = codes "end " ++ decimal count

-- the first line, the line of the name, a line for each entry, and the line of the end
unfoldable pub saved_text : SavedRun → List ℕ
saved_text saved =
    header ++ line (name_text saved.name) ++ flat_map (λ entry. line (entry_text entry)) saved.entries ++ line (end_text (length saved.entries))

-- the line is the text of a name
pub record IsNameText (text name : List ℕ) : Type 0 where
  pub spelled : text ≡ name_text name
  pub fits : IsName name

-- the line is the text of an entry
pub record IsEntryText (text : List ℕ) (entry : Asked) : Type 0 where
  pub spelled : text ≡ entry_text entry
  pub fits : IsEntry entry
