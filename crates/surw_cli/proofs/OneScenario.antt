-- A job over a scenario makes one answer of some bytes, where it makes one of a scenario.
use Rattle.std.proofs.Common.{◌≡◌, ℕ, List, Ok, Err, ap, sym, subst, ◌∙◌}
use Rattle.fault_text.specs.declared.fault.Fault.{Fault}
use Rattle.fault_text.specs.declared.fault.Fault.TheVariants.{Scenario}
use Rattle.pure_run.specs.declared.profiling.ProfileFault.{ProfileFault}
use Rattle.scenario_toml.specs.Scenario.{scenario_of}
use Rattle.scenario_toml.specs.State.{ScenarioState}
use Rattle.scenario_toml.specs.declared.fault.ScenarioFault.{ScenarioFault}
use Rattle.surw_cli.specs.Answer.{Answer, Refusal}
use Rattle.surw_cli.specs.Stop.{stop_of_profile}
use Rattle.surw_cli.specs.declared.stop.Stop.TheVariants.{Refused}

-- no scenario, a scenario whose profile refuses the job, or one that the job reports on
pub data Case (IsReport : ScenarioState → Answer → Type 0) (IsStopped : ScenarioState → ProfileFault → Type 0) (bytes : List ℕ) (answer : Answer) : Type 0 where
  Faulty : (fault : ScenarioFault) → scenario_of bytes ≡ Err fault → answer ≡ Refusal (Scenario fault) → Case IsReport IsStopped bytes answer
  Stopped : (scenario : ScenarioState) → scenario_of bytes ≡ Ok scenario → (fault : ProfileFault) (refusal : Fault) → IsStopped scenario fault
      → stop_of_profile fault ≡ Refused refusal → answer ≡ Refusal refusal → Case IsReport IsStopped bytes answer
  Reported : (scenario : ScenarioState) → scenario_of bytes ≡ Ok scenario → IsReport scenario answer → Case IsReport IsStopped bytes answer

-- one answer at most is made of a scenario
pub record MakesOneOf (IsReport : ScenarioState → Answer → Type 0) (IsStopped : ScenarioState → ProfileFault → Type 0) : Type 0 where
  pub reports : (scenario : ScenarioState) (answer other : Answer) → IsReport scenario answer → IsReport scenario other → other ≡ answer
  pub apart : (scenario : ScenarioState) (answer : Answer) (fault : ProfileFault) (refusal : Fault) → IsReport scenario answer → IsStopped scenario fault
      → stop_of_profile fault ≡ Refused refusal → ⊥
  pub stops : (scenario : ScenarioState) (fault other : ProfileFault) (refusal twin : Fault) → IsStopped scenario fault → IsStopped scenario other
      → stop_of_profile fault ≡ Refused refusal → stop_of_profile other ≡ Refused twin → twin ≡ refusal

pub scenario-one : (bytes : List ℕ) (scenario twin : ScenarioState) → scenario_of bytes ≡ Ok scenario → scenario_of bytes ≡ Ok twin → twin ≡ scenario
scenario-one bytes scenario twin is are = let results : Ok twin ≡ Ok scenario = sym are ∙ is in cc results

pub fault-one : (bytes : List ℕ) (fault other : ScenarioFault) → scenario_of bytes ≡ Err fault → scenario_of bytes ≡ Err other → other ≡ fault
fault-one bytes fault other is are = let results : Err other ≡ Err fault = sym are ∙ is in cc results

pub no-fault : (bytes : List ℕ) (scenario : ScenarioState) (fault : ScenarioFault) → scenario_of bytes ≡ Ok scenario → scenario_of bytes ≡ Err fault → ⊥
no-fault bytes scenario fault is refused = cc (sym refused ∙ is)

module _ (IsReport : ScenarioState → Answer → Type 0) (IsStopped : ScenarioState → ProfileFault → Type 0) (one : MakesOneOf IsReport IsStopped) (bytes : List ℕ) where
  reported-stopped : (answer : Answer) (scenario twin : ScenarioState) (fault : ProfileFault) (refusal : Fault) → scenario_of bytes ≡ Ok scenario → IsReport scenario answer
      → scenario_of bytes ≡ Ok twin → IsStopped twin fault → stop_of_profile fault ≡ Refused refusal → ⊥
  reported-stopped answer scenario twin fault refusal form made again stopped stop =
      one.apart scenario answer fault refusal made (subst (λ (s : ScenarioState). IsStopped s fault) (scenario-one bytes scenario twin form again) stopped) stop

  pub case-one : (answer other : Answer) → Case IsReport IsStopped bytes answer → Case IsReport IsStopped bytes other → other ≡ answer
  case-one answer other (Faulty fault wrong is) (Faulty twin again same) =
      same ∙ ap (λ (f : ScenarioFault). Refusal (Scenario f)) (fault-one bytes fault twin wrong again) ∙ sym is
  case-one answer other (Faulty fault wrong is) (Stopped scenario form cause refusal stopped stop same) = absurd (no-fault bytes scenario fault form wrong)
  case-one answer other (Faulty fault wrong is) (Reported scenario form made) = absurd (no-fault bytes scenario fault form wrong)
  case-one answer other (Stopped scenario form cause refusal stopped stop is) (Faulty fault wrong same) = absurd (no-fault bytes scenario fault form wrong)
  case-one answer other (Stopped scenario form cause refusal stopped stop is) (Stopped twin again reason twin_refusal restopped restop same) =
      let here : IsStopped scenario reason = subst (λ (s : ScenarioState). IsStopped s reason) (scenario-one bytes scenario twin form again) restopped in
      same ∙ ap (λ (f : Fault). Refusal f) (one.stops scenario cause reason refusal twin_refusal stopped here stop restop) ∙ sym is
  case-one answer other (Stopped scenario form cause refusal stopped stop is) (Reported twin again made) =
      absurd (reported-stopped other twin scenario cause refusal again made form stopped stop)
  case-one answer other (Reported scenario form made) (Faulty fault wrong same) = absurd (no-fault bytes scenario fault form wrong)
  case-one answer other (Reported scenario form made) (Stopped twin again cause refusal stopped stop same) =
      absurd (reported-stopped answer scenario twin cause refusal form made again stopped stop)
  case-one answer other (Reported scenario form made) (Reported twin again remade) =
      one.reports scenario answer other made (subst (λ (s : ScenarioState). IsReport s other) (scenario-one bytes scenario twin form again) remade)
