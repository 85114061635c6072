-- A scenario is run with one list of counts, or with none for one cause.
use Rattle.std.proofs.Common.{◌≡◌, ℕ, List, sym, subst, ◌∙◌}
use Rattle.fault_text.specs.declared.fault.Fault.{Fault}
use Rattle.pure_run.specs.declared.profiling.ProfileFault.{ProfileFault}
use Rattle.scenario_toml.specs.Chosen.{seed_by, strategy_by}
use Rattle.scenario_toml.specs.State.{ScenarioState}
use Rattle.scenario_toml.specs.declared.choice.Choice.{Choice}
use Rattle.scenario_toml.specs.declared.counts_rule.CountsRule.{CountsRule}
use Rattle.scenario_toml.specs.declared.counts_rule.CountsRule.TheVariants.{Profile, Given}
use Rattle.surw_cli.specs.Counts.{AreCounts, AreFrom, AreProfiled, IsUncounted, counted_by, rule_by}
use Rattle.surw_cli.specs.Stop.{stop_of_profile}
use Rattle.surw_cli.specs.declared.stop.Stop.TheVariants.{Refused}
use Rattle.surw_cli.proofs.OneProfile.{never-refused, profile-one}

from-one : (rule : CountsRule) (scenario : ScenarioState) (choice : Choice) (counts others : List ℕ) → AreFrom rule scenario choice counts → AreFrom rule scenario choice others → others ≡ counts
from-one (Given given) scenario choice counts others is twin = twin ∙ sym is
from-one Profile scenario choice counts others is twin =
    let same = profile-one scenario (seed_by scenario choice) is.selected is.all twin.selected twin.all is.profile twin.profile in
    twin.counted ∙ (λ i. counted_by (strategy_by scenario choice) (same.0 i) (same.1 i)) ∙ sym is.counted

pub counts-one : (scenario : ScenarioState) (choice : Choice) (counts others : List ℕ) → AreCounts scenario choice counts → AreCounts scenario choice others → others ≡ counts
counts-one scenario choice counts others is twin = from-one (rule_by (strategy_by scenario choice) scenario) scenario choice counts others is twin

-- where there are counts nothing refuses them
pub never-uncounted : (scenario : ScenarioState) (choice : Choice) (counts : List ℕ) (fault : ProfileFault) (refusal : Fault) → AreCounts scenario choice counts → IsUncounted scenario choice fault
    → stop_of_profile fault ≡ Refused refusal → ⊥
never-uncounted scenario choice counts fault refusal are none stop =
    let profiled : AreProfiled scenario choice counts = subst (λ (rule : CountsRule). AreFrom rule scenario choice counts) none.asked are in
    never-refused scenario (seed_by scenario choice) profiled.selected profiled.all fault refusal profiled.profile none.cause stop
