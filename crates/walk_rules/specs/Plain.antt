-- Plain: one other draw picks among the threads that can go on.
use Rattle.std.specs.Prelude.{None, ℕ, List, [], ◌∷◌, length, slice_index, false}
use Rattle.seed_draws.specs.Answers.{Answering}
use Rattle.walk_rules.specs.declared.seen.Seen.{Seen}
use Rattle.walk_rules.specs.Granted.{granted_at}
use Rattle.walk_rules.specs.Seen.{able_threads}
use Rattle.walk_rules.specs.State.{WalkState}
use Rattle.walk_rules.specs.Strategy.{OnePick, Strategy}

-- what its draw is below
abbrev pub plain_bound : List Seen → ℕ
plain_bound view = length (able_threads view)

-- the thread that a draw picks
abbrev pub plain_thread : List Seen → ℕ → ℕ
plain_thread view draw = slice_index (able_threads view) draw

abbrev pub plain_pick : WalkState → List Seen → Answering → Answering → OnePick
plain_pick walk view selected other = record {
  selected_bounds = [];
  other_bounds = plain_bound view ∷ [];
  picked = granted_at (plain_thread view) (other (plain_bound view ∷ []));
  memory = walk.memory;
}

abbrev pub plain : Strategy
plain = record { pick = plain_pick; counts_down = false; wants_every = false; asked = None }
