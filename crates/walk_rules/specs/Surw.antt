-- SURW: a thread is intended by a selected draw from the bag of the numbers left, until it makes its selected event; an
-- other draw picks among the threads whose event isn't selected and the intended one.
use Rattle.std.specs.Prelude.{ℕ, Result, Ok, Err, ◌==◌, ◌&&◌, ◌||◌, not, ltb, Bool, true, false, List, [], ◌∷◌, length, sum, slice_index, Option, None, Some, if◌then◌else◌}
use Rattle.std.specs.List.{filter, range_with_len}
use Rattle.draw_split.specs.Bag.{pick}
use Rattle.seed_draws.specs.declared.draw_fault.DrawFault.{DrawFault}
use Rattle.seed_draws.specs.Answers.{Answering}
use Rattle.walk_rules.specs.declared.picked.Picked.{Picked}
use Rattle.walk_rules.specs.declared.picked.Picked.TheVariants.{Grant, Stop}
use Rattle.walk_rules.specs.declared.seen.Seen.{Seen}
use Rattle.walk_rules.specs.Seen.{able_threads, is_able, is_chosen, seen_of}
use Rattle.walk_rules.specs.State.{Memory, WalkState}
use Rattle.walk_rules.specs.Strategy.{OnePick, Strategy}

-- a draw is asked for an intention where no thread is intended and some number is left
abbrev pub asks_intention : Option ℕ → List ℕ → Bool
asks_intention None left = ltb 0 (sum left)
asks_intention (Some thread) left = false

-- it is below the sum of the numbers left
abbrev pub intention_bounds : Option ℕ → List ℕ → List ℕ
intention_bounds intended left = if asks_intention intended left then sum left ∷ [] else []

-- the intended thread after it: the draw picks a place in the bag of all numbers left
abbrev pub intention : Option ℕ → List ℕ → List ℕ → Option ℕ
intention intended left draws = if asks_intention intended left then Some (pick left (slice_index draws 0)) else intended

-- or the refusal
abbrev pub intention_by : Option ℕ → List ℕ → Result (List ℕ) DrawFault → Result (Option ℕ) DrawFault
intention_by intended left (Ok draws) = Ok (intention intended left draws)
intention_by intended left (Err fault) = Err fault

abbrev pub is_intended : Option ℕ → ℕ → Bool
is_intended None thread = false
is_intended (Some other) thread = other == thread

-- a narrow candidate is able, and its event isn't selected or it is the intended thread
abbrev pub is_narrow : Option ℕ → List Seen → ℕ → Bool
is_narrow intended view thread = is_able (seen_of view thread) && (not (is_chosen (seen_of view thread)) || is_intended intended thread)

-- the narrow candidates, rising
unfoldable pub narrow : Option ℕ → List Seen → List ℕ
narrow intended view = filter (is_narrow intended view) (range_with_len 0 (length view))

-- the step is forced where there is none of them
abbrev pub is_forced : Option ℕ → List Seen → Bool
is_forced intended view = length (narrow intended view) == 0

-- and the candidates are then all able threads
abbrev pub candidates : Option ℕ → List Seen → List ℕ
candidates intended view = if is_forced intended view then able_threads view else narrow intended view

-- a draw among the candidates; nothing is asked where the intention is refused
abbrev pub candidate_bounds : List Seen → Result (Option ℕ) DrawFault → List ℕ
candidate_bounds view (Ok intended) = length (candidates intended view) ∷ []
candidate_bounds view (Err fault) = []

abbrev pub candidate_at : List Seen → Option ℕ → Result (List ℕ) DrawFault → Picked
candidate_at view intended (Ok draws) = Grant (slice_index (candidates intended view) (slice_index draws 0)) (is_forced intended view)
candidate_at view intended (Err fault) = Stop fault

abbrev pub surw_picked : List Seen → Result (Option ℕ) DrawFault → Result (List ℕ) DrawFault → Picked
surw_picked view (Ok intended) answer = candidate_at view intended answer
surw_picked view (Err fault) answer = Stop fault

abbrev pub surw_memory : Memory → Result (Option ℕ) DrawFault → Memory
surw_memory memory (Ok intended) = record memory { intended = intended }
surw_memory memory (Err fault) = memory

-- one pick, by the intention or its refusal
abbrev pub surw_by : WalkState → List Seen → Answering → Result (Option ℕ) DrawFault → OnePick
surw_by walk view other found = record {
  selected_bounds = intention_bounds walk.memory.intended walk.left;
  other_bounds = candidate_bounds view found;
  picked = surw_picked view found (other (candidate_bounds view found));
  memory = surw_memory walk.memory found;
}

abbrev pub surw_pick : WalkState → List Seen → Answering → Answering → OnePick
surw_pick walk view selected other =
    surw_by walk view other (intention_by walk.memory.intended walk.left (selected (intention_bounds walk.memory.intended walk.left)))

abbrev pub surw : Strategy
surw = record { pick = surw_pick; counts_down = true; wants_every = false; asked = None }
