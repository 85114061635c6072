-- PCT: at the first pick each thread gets a priority by selected draws, and steps are drawn at which the able thread of
-- highest priority gets a low one; the able thread of highest priority takes each step.
use Rattle.std.specs.Prelude.{None, ℕ, Result, Ok, Err, ◌+◌, ◌-◌, ◌==◌, ltb, false, List, [], ◌∷◌, ◌++◌, drop, length, map, replicate, slice_index, slice_set, sum, take, if◌then◌else◌}
use Rattle.std.specs.List.{range_with_len}
use Rattle.draw_split.specs.Named.{named_order}
use Rattle.seed_draws.specs.declared.draw_fault.DrawFault.{DrawFault}
use Rattle.seed_draws.specs.Answers.{Answering}
use Rattle.seed_draws.specs.Falling.{falling}
use Rattle.pct_draws.specs.ChangePoints.{change_bounds}
use Rattle.walk_rules.specs.declared.picked.Picked.{Picked}
use Rattle.walk_rules.specs.declared.picked.Picked.TheVariants.{Grant, Stop}
use Rattle.walk_rules.specs.declared.seen.Seen.{Seen}
use Rattle.walk_rules.specs.Seen.{able_threads}
use Rattle.walk_rules.specs.State.{Memory, WalkState, new_memory}
use Rattle.walk_rules.specs.Strategy.{OnePick, Strategy}

-- what the first pick asks: an order of all threads, and the change points
abbrev pub pct_bounds : ℕ → List ℕ → List ℕ
pct_bounds depth counts = falling (length counts) ++ change_bounds depth (sum counts)

-- the place of a thread in an order
unfoldable pub place_of : List ℕ → ℕ → ℕ
place_of [] thread = 0
place_of (first ∷ rest) thread = if first == thread then 0 else place_of rest thread + 1

-- the first priorities: of t threads, the one at place j of the order has priority depth - 1 + t - j
abbrev pub first_priorities : ℕ → ℕ → List ℕ → List ℕ
first_priorities depth threads order = map (λ thread. depth - 1 + threads - place_of order thread) (range_with_len 0 threads)

-- with the change points
unfoldable pub first_memory : ℕ → List ℕ → List ℕ → Memory
first_memory depth counts draws = record new_memory {
  priorities = first_priorities depth (length counts) (named_order (replicate (length counts) 1) (take (length counts) draws));
  changes = drop (length counts) draws;
}

-- among a thread and others, the one of highest priority
unfoldable pub higher : List ℕ → ℕ → List ℕ → ℕ
higher priorities thread [] = thread
higher priorities thread (other ∷ others) =
    higher priorities (if ltb (slice_index priorities thread) (slice_index priorities other) then other else thread) others

abbrev pub highest : List ℕ → List ℕ → ℕ
highest priorities [] = 0
highest priorities (thread ∷ threads) = higher priorities thread threads

-- the priorities at a step: at each change point that is this step, rising, the able thread of highest priority gets
-- the point's number
unfoldable pub changed : ℕ → List Seen → ℕ → List ℕ → List ℕ → List ℕ
changed step view i [] priorities = priorities
changed step view i (point ∷ points) priorities =
    changed step view (i + 1) points (if point == step then slice_set priorities (highest priorities (able_threads view)) i else priorities)

abbrev pub lowered : ℕ → List Seen → Memory → Memory
lowered step view memory = record memory { priorities = changed step view 1 memory.changes memory.priorities }

-- what is kept at a pick: at the first one what the draws give
abbrev pub found_by : ℕ → ℕ → List ℕ → Memory → Result (List ℕ) DrawFault → Result Memory DrawFault
found_by depth step counts memory (Ok draws) = Ok (if step == 0 then first_memory depth counts draws else memory)
found_by depth step counts memory (Err fault) = Err fault

abbrev pub pct_found : ℕ → WalkState → Result (List ℕ) DrawFault → Result Memory DrawFault
pct_found depth walk answer = found_by depth walk.steps walk.counts walk.memory answer

abbrev pub pct_picked : ℕ → List Seen → Result Memory DrawFault → Picked
pct_picked step view (Ok memory) = Grant (highest (lowered step view memory).priorities (able_threads view)) false
pct_picked step view (Err fault) = Stop fault

abbrev pub pct_memory : ℕ → List Seen → Memory → Result Memory DrawFault → Memory
pct_memory step view before (Ok memory) = lowered step view memory
pct_memory step view before (Err fault) = before

abbrev pub pct_asked : ℕ → ℕ → List ℕ → List ℕ
pct_asked depth step counts = if step == 0 then pct_bounds depth counts else []

abbrev pub pct_by : ℕ → WalkState → List Seen → Result Memory DrawFault → OnePick
pct_by depth walk view found = record {
  selected_bounds = pct_asked depth walk.steps walk.counts;
  other_bounds = [];
  picked = pct_picked walk.steps view found;
  memory = pct_memory walk.steps view walk.memory found;
}

abbrev pub pct_pick : ℕ → WalkState → List Seen → Answering → Answering → OnePick
pct_pick depth walk view selected other = pct_by depth walk view (pct_found depth walk (selected (pct_asked depth walk.steps walk.counts)))

abbrev pub pct : ℕ → Strategy
pct depth = record { pick = pct_pick depth; counts_down = false; wants_every = false; asked = None }
