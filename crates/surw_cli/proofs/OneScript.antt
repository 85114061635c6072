-- The plans of a scenario are run in one way.
use Rattle.std.proofs.Common.{◌≡◌, ℕ, List, length, sym, ◌∙◌}
use Rattle.routine_kit.specs.declared.any_routine.AnyRoutine.{AnyRoutine}
use Rattle.run_rules.specs.Replies.{routines_say}
use Rattle.run_rules.specs.declared.plan.Plan.{Plan}
use Rattle.scenario_toml.specs.FollowPlan.{IsFollowPlanOf}
use Rattle.scenario_toml.specs.Plan.{IsPlanOf}
use Rattle.scenario_toml.specs.State.{ScenarioState}
use Rattle.scenario_toml.specs.declared.choice.Choice.{Choice}
use Rattle.seed_draws.specs.Answers.{source_of}
use Rattle.seed_draws.specs.AnyDraws.{any_draws}
use Rattle.seed_draws.specs.declared.any_draws.AnyDraws.{AnyDraws}
use Rattle.walk_rules.specs.declared.asked.Asked.{Asked}
use Rattle.surw_cli.specs.Script.{any_routine, script}

-- two plans have the same parts
pub record AreAlike (plan twin : Plan AnyRoutine AnyDraws AnyDraws) : Type 0 where
  pub world : twin.world ≡ plan.world
  pub routines : twin.routines.items ≡ plan.routines.items
  pub selection : twin.selection ≡ plan.selection
  pub walk : twin.walk ≡ plan.walk
  pub selected : twin.selected ≡ plan.selected
  pub other : twin.other ≡ plan.other
  pub max_steps : twin.max_steps ≡ plan.max_steps
  pub monitors : twin.monitors.items ≡ plan.monitors.items

alike-script : (plan twin : Plan AnyRoutine AnyDraws AnyDraws) → AreAlike plan twin → script twin ≡ script plan
alike-script plan twin are = λ i. record {
  setup = record {
    size = are.world i;
    threads = length (are.routines i);
    selection = are.selection i;
    rule = (are.walk i).rule;
    counts = (are.walk i).counts;
    selected = source_of any_draws (are.selected i);
    other = source_of any_draws (are.other i);
    max_steps = are.max_steps i;
    monitors = are.monitors i;
  };
  says = routines_say any_routine (are.routines i);
}

pub script-one : (scenario : ScenarioState) (choice : Choice) (counts : List ℕ) (plan twin : Plan AnyRoutine AnyDraws AnyDraws)
    → IsPlanOf scenario choice counts plan → IsPlanOf scenario choice counts twin → script twin ≡ script plan
script-one scenario choice counts plan twin is are = alike-script plan twin (record {
  world = are.world ∙ sym is.world;
  routines = are.routines ∙ sym is.routines;
  selection = are.selection ∙ sym is.selection;
  walk = are.walk ∙ sym is.walk;
  selected = are.selected ∙ sym is.selected;
  other = are.other ∙ sym is.other;
  max_steps = are.max_steps ∙ sym is.max_steps;
  monitors = are.monitors ∙ sym is.monitors;
})

-- so are the plans that follow one list
pub follow-script-one : (scenario : ScenarioState) (list : List Asked) (plan twin : Plan AnyRoutine AnyDraws AnyDraws)
    → IsFollowPlanOf scenario list plan → IsFollowPlanOf scenario list twin → script twin ≡ script plan
follow-script-one scenario list plan twin is are = alike-script plan twin (record {
  world = are.world ∙ sym is.world;
  routines = are.routines ∙ sym is.routines;
  selection = are.selection ∙ sym is.selection;
  walk = are.walk ∙ sym is.walk;
  selected = are.selected ∙ sym is.selected;
  other = are.other ∙ sym is.other;
  max_steps = are.max_steps ∙ sym is.max_steps;
  monitors = are.monitors ∙ sym is.monitors;
})
