-- The intended thread, found again from the journal.
use Rattle.std.specs.Prelude.{ℕ, ◌-◌, ◌==◌, ◌&&◌, not, Bool, List, [], ◌∷◌, ◌++◌, length, map, sum, slice_index, slice_index_or, Option, None, Some, Result, Ok, Err, if◌then◌else◌}
use Rattle.draw_split.specs.Bag.{pick}
use Rattle.event_class.specs.declared.pickable.Pickable.{Pickable}
use Rattle.event_class.specs.Selection.{has}
use Rattle.seed_draws.specs.declared.draw_fault.DrawFault.{DrawFault}
use Rattle.seed_draws.specs.Answers.{Answering}
use Rattle.run_rules.specs.declared.entry.Entry.{Entry}
use Rattle.run_rules.specs.NumbersLeft.{numbers_left}
use Rattle.run_rules.specs.Setup.{Setup}

-- whether an entry ends the intention: its event is selected, and it isn't forced
abbrev pub ends_intention : List Pickable → Entry → Bool
ends_intention selection entry = has selection entry.event && not entry.forced

-- after these entries, the prefixes that end with an entry that ends the intention
unfoldable pub ending_prefixes : List Pickable → List Entry → List Entry → List (List Entry)
ending_prefixes selection before [] = []
ending_prefixes selection before (entry ∷ entries) =
    (if ends_intention selection entry then (before ++ entry ∷ []) ∷ [] else []) ++ ending_prefixes selection (before ++ entry ∷ []) entries

-- the numbers left where each intention is drawn: at the start, and after each entry that ended one
unfoldable pub intention_lefts : List Pickable → List ℕ → List Entry → List (List ℕ)
intention_lefts selection counts journal = map (numbers_left selection counts) ([] ∷ ending_prefixes selection [] journal)

-- those where the last one is drawn
abbrev pub last_left : List (List ℕ) → List ℕ
last_left lefts = slice_index_or lefts (length lefts - 1) []

-- the thread that one of some answers picks
abbrev pub picked_from : List ℕ → ℕ → Result (List ℕ) DrawFault → Result (Option ℕ) DrawFault
picked_from left n (Ok draws) = Ok (Some (pick left (slice_index draws n)))
picked_from left n (Err fault) = Err fault

-- the thread that the last answer to the sums picks, none where nothing is left, or the refusal
abbrev pub intended_by : Answering → List (List ℕ) → Result (Option ℕ) DrawFault
intended_by answers lefts =
    if sum (last_left lefts) == 0 then Ok None else picked_from (last_left lefts) (length lefts - 1) (answers (map sum lefts))

unfoldable pub intended_after : Setup → List Entry → Result (Option ℕ) DrawFault
intended_after setup journal = intended_by setup.selected.answers (intention_lefts setup.selection setup.counts journal)
