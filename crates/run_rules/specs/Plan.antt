-- Plans: by their setup and by what their routines announce.
use Rattle.std.specs.Prelude.{◌≡◌, length}
use Rattle.routine_kit.specs.declared.routine.Routine as routine
use Rattle.seed_draws.specs.declared.draws.Draws as draws
use Rattle.seed_draws.specs.Answers.{Source, source_of}
use Rattle.walk_rules.specs.State.{new_walk}
use Rattle.run_rules.specs.declared.plan.Plan.{Plan}
use Rattle.run_rules.specs.Replies.{routines_say}
use Rattle.run_rules.specs.Setup.{Setup, Script, IsValid}

-- the setup of a plan, with these for its two sources
abbrev pub setup_with : {R S O : Type 0} → Source → Source → Plan R S O → Setup
setup_with selected other plan = record {
  size = plan.world;
  threads = length plan.routines.items;
  selection = plan.selection;
  rule = plan.walk.rule;
  counts = plan.walk.counts;
  selected = selected;
  other = other;
  max_steps = plan.max_steps;
  monitors = plan.monitors.items;
}

-- and with its own two, by what sources of their kinds answer
abbrev pub setup_of : {R S O : Type 0} → draws.Ghosts S → draws.Ghosts O → Plan R S O → Setup
setup_of selected_draws other_draws plan = setup_with (source_of selected_draws plan.selected) (source_of other_draws plan.other) plan

-- a plan by its setup and by what its routines announce
abbrev pub script_of : {R S O : Type 0} → routine.Ghosts R → draws.Ghosts S → draws.Ghosts O → Plan R S O → Script
script_of behaviour selected_draws other_draws plan =
    record { setup = setup_of selected_draws other_draws plan; says = routines_say behaviour plan.routines.items }

-- a plan that can be run, whatever its sources answer
pub record IsValidPlan {R S O : Type 0} (plan : Plan R S O) : Type 0 where
  pub valid : (selected other : Source) → IsValid (setup_with selected other plan)
  pub fresh : plan.walk ≡ new_walk plan.walk.rule plan.walk.counts
