-- The plan of a scenario.
use Rattle.std.specs.Prelude.{◌≡◌, ℕ, List, [], ◌∷◌}
use Rattle.event_class.specs.declared.pickable.Pickable.{Pickable}
use Rattle.event_class.specs.declared.pickable.Pickable.TheVariants.{Every}
use Rattle.routine_kit.specs.declared.any_routine.AnyRoutine.{AnyRoutine}
use Rattle.run_rules.specs.declared.plan.Plan.{Plan}
use Rattle.seed_draws.specs.declared.any_draws.AnyDraws.{AnyDraws}
use Rattle.walk_rules.specs.declared.rule.Rule.{Rule}
use Rattle.walk_rules.specs.declared.rule.Rule.TheVariants as rule
use Rattle.walk_rules.specs.State.{new_walk}
use Rattle.scenario_toml.specs.declared.choice.Choice.{Choice}
use Rattle.scenario_toml.specs.declared.strategy.Strategy.{Strategy}
use Rattle.scenario_toml.specs.declared.strategy.Strategy.TheVariants.{Urw, Surw, Pct, Plain}
use Rattle.scenario_toml.specs.Chosen.{depth_by, strategy_by}
use Rattle.scenario_toml.specs.Draws.{other_draws_of, selected_draws_of}
use Rattle.scenario_toml.specs.State.{ScenarioState}

-- the rule of a strategy, where a depth is given
abbrev pub rule_by : Strategy → ℕ → Rule
rule_by Urw depth = rule.Urw
rule_by Surw depth = rule.Surw
rule_by Pct depth = rule.Pct depth
rule_by Plain depth = rule.Plain

-- under URW every event is selected, under each other strategy those that the file says
abbrev pub selection_by : Strategy → List Pickable → List Pickable
selection_by Urw select = Every ∷ []
selection_by _ select = select

-- the plan of a scenario under a choice, with these counts
pub record IsPlanOf (s : ScenarioState) (choice : Choice) (counts : List ℕ) (plan : Plan AnyRoutine AnyDraws AnyDraws) : Type 0 where
  pub world : plan.world ≡ s.size
  pub routines : plan.routines.items ≡ s.routines
  pub selection : plan.selection ≡ selection_by (strategy_by s choice) s.select
  pub walk : plan.walk ≡ new_walk (rule_by (strategy_by s choice) (depth_by s choice)) counts
  pub selected : plan.selected ≡ selected_draws_of s choice
  pub other : plan.other ≡ other_draws_of s choice
  pub max_steps : plan.max_steps ≡ s.max_steps
  pub monitors : plan.monitors.items ≡ s.monitors
