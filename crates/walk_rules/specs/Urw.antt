-- URW: one selected draw picks a place in the bag of the numbers left, kept to the threads that can go on.
use Rattle.std.specs.Prelude.{None, ℕ, List, [], ◌∷◌, sum, true}
use Rattle.draw_split.specs.Bag.{pick}
use Rattle.seed_draws.specs.Answers.{Answering}
use Rattle.walk_rules.specs.declared.seen.Seen.{Seen}
use Rattle.walk_rules.specs.Granted.{granted_at}
use Rattle.walk_rules.specs.Seen.{kept_to_able}
use Rattle.walk_rules.specs.State.{WalkState}
use Rattle.walk_rules.specs.Strategy.{OnePick, Strategy}

-- what its draw is below
abbrev pub urw_bound : List ℕ → List Seen → ℕ
urw_bound left view = sum (kept_to_able left view)

-- the thread that a draw picks
abbrev pub urw_thread : List ℕ → List Seen → ℕ → ℕ
urw_thread left view draw = pick (kept_to_able left view) draw

abbrev pub urw_pick : WalkState → List Seen → Answering → Answering → OnePick
urw_pick walk view selected other = record {
  selected_bounds = urw_bound walk.left view ∷ [];
  other_bounds = [];
  picked = granted_at (urw_thread walk.left view) (selected (urw_bound walk.left view ∷ []));
  memory = walk.memory;
}

abbrev pub urw : Strategy
urw = record { pick = urw_pick; counts_down = true; wants_every = true; asked = None }
