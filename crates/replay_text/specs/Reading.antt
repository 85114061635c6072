-- What a text reads as: a saved run, or its first fault.
use Rattle.std.specs.Prelude.{ℕ, ◌+◌, nat_eq, nat_lt, List, [], ◌∷◌, length, drop, Option, None, Some, Result, Ok, Err, if◌then◌else◌}
use Rattle.std.specs.List.{starts_with}
use Rattle.std.specs.Str.{bytes_eq}
use Rattle.surw_base.specs.declared.limits.TheConstants.{STEPS}
use Rattle.walk_rules.specs.declared.asked.Asked.{Asked}
use Rattle.replay_text.specs.declared.replay_fault.ReplayFault.{ReplayFault}
use Rattle.replay_text.specs.declared.replay_fault.ReplayFault.TheVariants.{Header, Line, TooMany, NoEnd}
use Rattle.replay_text.specs.EntryOf.{entry_of}
use Rattle.replay_text.specs.Lines.{whole_lines, unfinished}
use Rattle.replay_text.specs.NameOf.{name_of}
use Rattle.replay_text.specs.SavedRun.{SavedRun}
use Rattle.replay_text.specs.SavedText.{header, end_text}

-- the entry of a line and those behind it, where the line gives one
abbrev pub with_entry : Option Asked → List Asked → List Asked
with_entry None behind = []
with_entry (Some entry) behind = entry ∷ behind

-- the entries of the lines up to the first that gives none
unfoldable pub entries_of : List (List ℕ) → List Asked
entries_of [] = []
entries_of (line ∷ lines) = with_entry (entry_of line) (entries_of lines)

-- these entries, where no line and no rest follows that of the end
abbrev pub if_last : List Asked → List (List ℕ) → List ℕ → Result (List Asked) ReplayFault
if_last entries [] [] = Ok entries
if_last entries _ _ = Err (Line (length entries + 4))

-- these entries, where the lines behind them begin with that of the end
abbrev pub if_ended : List Asked → List (List ℕ) → List ℕ → Result (List Asked) ReplayFault
if_ended entries [] rest = Err NoEnd
if_ended entries (line ∷ lines) rest =
    if bytes_eq line (end_text (length entries)) then if_last entries lines rest else Err (Line (length entries + 3))

-- what the lines behind the name read as, and the rest behind them
unfoldable pub asked_of : List (List ℕ) → List ℕ → Result (List Asked) ReplayFault
asked_of lines rest =
    if nat_lt STEPS (length (entries_of lines)) then Err (TooMany (STEPS + 3))
    else if_ended (entries_of lines) (drop (length (entries_of lines)) lines) rest

-- a run with this name and what stands behind it
abbrev pub run_of : Option (List ℕ) → Result (List Asked) ReplayFault → Result SavedRun ReplayFault
run_of None asked = Err (Line 2)
run_of (Some name) (Err fault) = Err fault
run_of (Some name) (Ok entries) = Ok (record { name = name; entries = entries })

-- what the lines behind the first read as, and the rest behind them
abbrev pub body_of : List (List ℕ) → List ℕ → Result SavedRun ReplayFault
body_of [] rest = Err NoEnd
body_of (line ∷ lines) rest = run_of (name_of line) (asked_of lines rest)

-- what a text reads as
unfoldable pub saved_of : List ℕ → Result SavedRun ReplayFault
saved_of text =
    let behind = drop (length header) text in
    if starts_with nat_eq text header then body_of (whole_lines behind) (unfinished behind) else Err Header
