-- What a core is opened with.
use Rattle.std.specs.Prelude.{◌≡◌, ℕ, true, List, length}
use Rattle.event_class.specs.declared.pickable.Pickable.{Pickable}
use Rattle.seed_draws.specs.declared.draws.Draws.{Ghosts}
use Rattle.seed_draws.specs.Answers.{Source}
use Rattle.test_world.specs.declared.monitor.Monitor.{Monitor}
use Rattle.test_world.specs.declared.size.WorldSize.{WorldSize}
use Rattle.walk_rules.specs.State.{WalkState}
use Rattle.run_rules.specs.declared.plan.Plan.{Plan}
use Rattle.run_rules.specs.Setup.{Setup}

-- the parts of a plan that a core keeps: all but the routines, of which it keeps the number
pub record OpeningState (S O : Type 0) : Type 0 where
  pub size : WorldSize
  pub threads : ℕ
  pub selection : List Pickable
  pub walk : WalkState
  pub selected : S
  pub other : O
  pub max_steps : ℕ
  pub monitors : List Monitor

abbrev pub opening_of : {R S O : Type 0} → Plan R S O → OpeningState S O
opening_of plan = record {
  size = plan.world;
  threads = length plan.routines.items;
  selection = plan.selection;
  walk = plan.walk;
  selected = plan.selected;
  other = plan.other;
  max_steps = plan.max_steps;
  monitors = plan.monitors.items;
}

-- the setup of an opening, with these for its two sources
abbrev pub setup_in : {S O : Type 0} → Source → Source → OpeningState S O → Setup
setup_in selected other opening = record {
  size = opening.size;
  threads = opening.threads;
  selection = opening.selection;
  rule = opening.walk.rule;
  counts = opening.walk.counts;
  selected = selected;
  other = other;
  max_steps = opening.max_steps;
  monitors = opening.monitors;
}

-- a plan has what is in an opening, and its sources count as one with those
pub record IsOpeningOf {R S O : Type 0} (selected_draws : Ghosts S) (other_draws : Ghosts O)
    (opening : OpeningState S O) (plan : Plan R S O) : Type 0 where
  pub size : opening.size ≡ plan.world
  pub threads : opening.threads ≡ length plan.routines.items
  pub selection : opening.selection ≡ plan.selection
  pub walk : opening.walk ≡ plan.walk
  pub selected : selected_draws.counts_as_one opening.selected plan.selected ≡ true
  pub other : other_draws.counts_as_one opening.other plan.other ≡ true
  pub max_steps : opening.max_steps ≡ plan.max_steps
  pub monitors : opening.monitors ≡ plan.monitors.items
