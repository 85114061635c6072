-- The counts that a scenario is run with.
use Rattle.std.specs.Prelude.{◌≡◌, ℕ, List}
use Rattle.pure_run.specs.declared.profiling.ProfileFault.{ProfileFault}
use Rattle.scenario_toml.specs.Chosen.{seed_by, strategy_by}
use Rattle.scenario_toml.specs.declared.choice.Choice.{Choice}
use Rattle.scenario_toml.specs.declared.counts_rule.CountsRule.{CountsRule}
use Rattle.scenario_toml.specs.declared.counts_rule.CountsRule.TheVariants.{Profile, Given}
use Rattle.scenario_toml.specs.declared.strategy.Strategy.{Strategy}
use Rattle.scenario_toml.specs.declared.strategy.Strategy.TheVariants.{Plain, Surw}
use Rattle.scenario_toml.specs.FollowPlan.{no_counts}
use Rattle.scenario_toml.specs.State.{ScenarioState}
use Rattle.surw_cli.specs.Profiled.{IsProfileOf, IsUnprofiled}

-- where the counts come from: the plain strategy looks at none, so under it zeros are given; else the file says
abbrev pub rule_by : Strategy → ScenarioState → CountsRule
rule_by Plain scenario = Given (no_counts scenario)
rule_by strategy scenario = scenario.counts

-- what a strategy counts: SURW the selected events, each other strategy all events
abbrev pub counted_by : Strategy → List ℕ → List ℕ → List ℕ
counted_by Surw selected all = selected
counted_by strategy selected all = all

-- the counts are those of the scenario's profile
pub record AreProfiled (scenario : ScenarioState) (choice : Choice) (counts : List ℕ) : Type 0 where
  pub selected : List ℕ
  pub all : List ℕ
  pub profile : IsProfileOf scenario (seed_by scenario choice) selected all
  pub counted : counts ≡ counted_by (strategy_by scenario choice) selected all

-- the counts are those that are given, or those of a profile
abbrev pub AreFrom : CountsRule → ScenarioState → Choice → List ℕ → Type 0
AreFrom (Given given) scenario choice counts = counts ≡ given
AreFrom Profile scenario choice counts = AreProfiled scenario choice counts

-- the counts that the scenario is run with under a choice
abbrev pub AreCounts : ScenarioState → Choice → List ℕ → Type 0
AreCounts scenario choice counts = AreFrom (rule_by (strategy_by scenario choice) scenario) scenario choice counts

-- the counts are asked of a profile, and there is none for this cause
pub record IsUncounted (scenario : ScenarioState) (choice : Choice) (fault : ProfileFault) : Type 0 where
  pub asked : rule_by (strategy_by scenario choice) scenario ≡ Profile
  pub cause : IsUnprofiled scenario (seed_by scenario choice) fault
