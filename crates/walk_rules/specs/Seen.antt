-- What a strategy sees of the threads.
use Rattle.std.specs.Prelude.{ℕ, Bool, true, false, not, List, [], ◌∷◌, length, slice_index_or, if◌then◌else◌}
use Rattle.std.specs.List.{filter, range_with_len}
use Rattle.walk_rules.specs.declared.seen.Seen.{Seen}
use Rattle.walk_rules.specs.declared.seen.Seen.TheVariants.{Over, Held, Able}

-- whether a thread can go on
abbrev pub is_able : Seen → Bool
is_able (Able chosen) = true
is_able _ = false

-- whether a thread announces an event that isn't enabled
abbrev pub is_held : Seen → Bool
is_held (Held chosen) = true
is_held _ = false

-- whether a thread announces an event
abbrev pub is_announcing : Seen → Bool
is_announcing Over = false
is_announcing _ = true

-- whether a thread announces a selected event
abbrev pub is_chosen : Seen → Bool
is_chosen Over = false
is_chosen (Held chosen) = chosen
is_chosen (Able chosen) = chosen

-- whether a thread can go on and its event is selected
abbrev pub is_selected : Seen → Bool
is_selected (Able chosen) = chosen
is_selected _ = false

-- whether a thread can go on and its event isn't selected
abbrev pub is_unselected : Seen → Bool
is_unselected (Able chosen) = not chosen
is_unselected _ = false

-- what is seen of a thread; one past the list has ended
abbrev pub seen_of : List Seen → ℕ → Seen
seen_of view thread = slice_index_or view thread Over

-- the threads that can go on, rising
unfoldable pub able_threads : List Seen → List ℕ
able_threads view = filter (λ thread. is_able (seen_of view thread)) (range_with_len 0 (length view))

-- the threads that announce an event that isn't enabled, rising
unfoldable pub held_threads : List Seen → List ℕ
held_threads view = filter (λ thread. is_held (seen_of view thread)) (range_with_len 0 (length view))

-- some numbers with 0 for each thread that can't go on
unfoldable pub kept_to_able : List ℕ → List Seen → List ℕ
kept_to_able [] view = []
kept_to_able (number ∷ numbers) [] = 0 ∷ kept_to_able numbers []
kept_to_able (number ∷ numbers) (seen ∷ view) = (if is_able seen then number else 0) ∷ kept_to_able numbers view
