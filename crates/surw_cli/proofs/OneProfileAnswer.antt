-- The job `profile` makes one answer of some bytes.
use Rattle.std.proofs.Common.{◌≡◌, ℕ, List, None, refl, ap, sym, ◌∙◌}
use Rattle.fault_text.specs.declared.fault.Fault.TheVariants.{Scenario, ProfileStepLimit, ProfileDeadlock}
use Rattle.pure_run.specs.declared.profiling.ProfileFault.{ProfileFault}
use Rattle.pure_run.specs.declared.profiling.ProfileFault.TheVariants.{StepLimit, Deadlock}
use Rattle.report_text.specs.ProfileText.{profile_text}
use Rattle.scenario_toml.specs.Chosen.{seed_by}
use Rattle.scenario_toml.specs.State.{ScenarioState}
use Rattle.scenario_toml.specs.declared.choice.Choice.{Choice}
use Rattle.surw_cli.specs.Answer.{Answer, Report, Refusal}
use Rattle.surw_cli.specs.ProfileAnswer.{profile_answer}
use Rattle.surw_cli.specs.Profiled.{IsProfileOf, IsUnprofiled}
use Rattle.surw_cli.specs.declared.status.Status.TheVariants.{Done}
use Rattle.surw_cli.proofs.OneFile.{MakesOne}
use Rattle.surw_cli.proofs.OneProfile.{never-refused, profile-one, refusal-one}
use Rattle.surw_cli.proofs.OneScenario.{Case, Faulty, Stopped, Reported, MakesOneOf, case-one}

-- a scenario has no profile by the seed of a choice, for this cause
abbrev unprofiled : Choice → ScenarioState → ProfileFault → Type 0
unprofiled choice scenario fault = IsUnprofiled scenario (seed_by scenario choice) fault

-- the answer is a scenario's profile
record HasProfile (choice : Choice) (scenario : ScenarioState) (answer : Answer) : Type 0 where
  pub selected : List ℕ
  pub all : List ℕ
  pub profile : IsProfileOf scenario (seed_by scenario choice) selected all
  pub is : answer ≡ Report Done (profile_text selected all) None

texts-one : (selected all others totals : List ℕ) → (others ≡ selected) × (totals ≡ all) → profile_text others totals ≡ profile_text selected all
texts-one selected all others totals same = λ i. profile_text (same.0 i) (same.1 i)

one-report : (choice : Choice) → MakesOneOf (HasProfile choice) (unprofiled choice)
one-report choice = record {
  reports = λ scenario answer other has twin.
      twin.is
      ∙ ap (λ (text : List ℕ). Report Done text None)
      (texts-one has.selected has.all twin.selected twin.all (profile-one scenario (seed_by scenario choice) has.selected has.all twin.selected twin.all has.profile twin.profile))
      ∙ sym has.is;
  apart = λ scenario answer fault refusal has none stop. never-refused scenario (seed_by scenario choice) has.selected has.all fault refusal has.profile none stop;
  stops = λ scenario fault other refusal twin none are stop again. refusal-one scenario (seed_by scenario choice) fault other refusal twin none are stop again;
}

case : (choice : Choice) (bytes : List ℕ) (answer : Answer) → profile_answer choice bytes answer → Case (HasProfile choice) (unprofiled choice) bytes answer
case choice bytes (Report Done text None) is =
    Reported is.scenario is.form
    (record { selected = is.selected; all = is.all; profile = is.profile; is = ap (λ (t : List ℕ). Report Done t None) is.printed })
case choice bytes (Refusal (Scenario fault)) is = Faulty fault is refl
case choice bytes (Refusal ProfileStepLimit) is = Stopped is.scenario is.form StepLimit ProfileStepLimit is.stopped refl refl
case choice bytes (Refusal (ProfileDeadlock step)) is = Stopped is.scenario is.form (Deadlock step) (ProfileDeadlock step) is.stopped refl refl
case choice bytes _ is = absurd is

pub profile-answer-one : (choice : Choice) → MakesOne (profile_answer choice)
profile-answer-one choice bytes answer other is twin =
    case-one (HasProfile choice) (unprofiled choice) (one-report choice) bytes answer other (case choice bytes answer is) (case choice bytes other twin)
