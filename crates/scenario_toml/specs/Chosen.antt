-- What a choice puts in place of a file's values.
use Rattle.std.specs.Prelude.{ℕ, ◌≤◌, Option, None, Some, IfSome}
use Rattle.surw_base.specs.declared.limits.TheConstants.{DEPTH}
use Rattle.scenario_toml.specs.declared.choice.Choice.{Choice}
use Rattle.scenario_toml.specs.declared.strategy.Strategy.{Strategy}
use Rattle.scenario_toml.specs.State.{ScenarioState}

-- what is chosen, else what the file has
abbrev pub chosen_or : {A : Type 0} → A → Option A → A
chosen_or kept None = kept
chosen_or kept (Some chosen) = chosen

-- the strategy that a choice and a scenario give
abbrev pub strategy_by : ScenarioState → Choice → Strategy
strategy_by s choice = chosen_or s.strategy choice.strategy

-- the seed that they give
abbrev pub seed_by : ScenarioState → Choice → ℕ
seed_by s choice = chosen_or s.seed choice.seed

-- the depth that they give
abbrev pub depth_by : ScenarioState → Choice → ℕ
depth_by s choice = chosen_or s.depth choice.depth

-- the depth of a choice, where it has one, is from 1 to `DEPTH`
abbrev pub HasDepth : Choice → Type 0
HasDepth choice = IfSome choice.depth (λ depth. (1 ≤ depth) × (depth ≤ DEPTH))
