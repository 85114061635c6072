-- The job `plan` makes one answer of some bytes.
use Rattle.std.proofs.Common.{◌≡◌, ℕ, List, Option, refl, ap, sym, subst, ◌∙◌}
use Rattle.fault_text.specs.declared.fault.Fault.TheVariants.{Scenario, ProfileStepLimit, ProfileDeadlock}
use Rattle.pure_run.specs.declared.profiling.ProfileFault.{ProfileFault}
use Rattle.pure_run.specs.declared.profiling.ProfileFault.TheVariants.{StepLimit, Deadlock}
use Rattle.report_text.specs.Report.{report_text}
use Rattle.run_rules.proofs.Outcomes.{one-outcome}
use Rattle.run_rules.specs.Run.{IsRun, Outcome}
use Rattle.run_rules.specs.Setup.{Script}
use Rattle.scenario_toml.specs.Plan.{IsPlanOf}
use Rattle.scenario_toml.specs.Chosen.{seed_by}
use Rattle.scenario_toml.specs.State.{ScenarioState}
use Rattle.scenario_toml.specs.declared.choice.Choice.{Choice}
use Rattle.surw_cli.specs.Answer.{Answer, Report, Refusal}
use Rattle.surw_cli.specs.Counts.{IsUncounted}
use Rattle.surw_cli.specs.PlanAnswer.{plan_answer}
use Rattle.surw_cli.specs.Planned.{IsRunOf, status_of_run}
use Rattle.surw_cli.specs.Saved.{saved_file}
use Rattle.surw_cli.specs.Script.{script}
use Rattle.surw_cli.proofs.OneCounts.{counts-one, never-uncounted}
use Rattle.surw_cli.proofs.OneFile.{MakesOne}
use Rattle.surw_cli.proofs.OneProfile.{refusal-one}
use Rattle.surw_cli.proofs.OneScenario.{Case, Faulty, Stopped, Reported, MakesOneOf, case-one}
use Rattle.surw_cli.proofs.OneScript.{script-one}

-- the counts of a scenario are refused for this cause
abbrev uncounted : Choice → ScenarioState → ProfileFault → Type 0
uncounted choice scenario fault = IsUncounted scenario choice fault

-- a scenario has one run under a choice
pub outcome-one : (scenario : ScenarioState) (choice : Choice) (outcome other : Outcome) → IsRunOf scenario choice outcome → IsRunOf scenario choice other → other ≡ outcome
outcome-one scenario choice outcome other is twin =
    let counts : twin.counts ≡ is.counts = counts-one scenario choice is.counts twin.counts is.counted twin.counted in
    let planned : IsPlanOf scenario choice is.counts twin.plan = subst (λ (cs : List ℕ). IsPlanOf scenario choice cs twin.plan) counts twin.planned in
    let same : script twin.plan ≡ script is.plan = script-one scenario choice is.counts is.plan twin.plan is.planned planned in
    one-outcome (script is.plan) outcome other is.run (subst (λ (s : Script). IsRun s other) same twin.run)

-- the report of a run of the scenario that is in these bytes
abbrev report_of : Option (List ℕ) → List ℕ → Outcome → Answer
report_of save bytes outcome = Report (status_of_run outcome) (report_text outcome) (saved_file save bytes outcome.journal)

-- the answer is the report of a scenario's run
record HasRun (choice : Choice) (save : Option (List ℕ)) (bytes : List ℕ) (scenario : ScenarioState) (answer : Answer) : Type 0 where
  pub outcome : Outcome
  pub run : IsRunOf scenario choice outcome
  pub is : answer ≡ report_of save bytes outcome

one-report : (choice : Choice) (save : Option (List ℕ)) (bytes : List ℕ) → MakesOneOf (HasRun choice save bytes) (uncounted choice)
one-report choice save bytes = record {
  reports = λ scenario answer other has twin.
      twin.is
      ∙ ap (report_of save bytes) (outcome-one scenario choice has.outcome twin.outcome has.run twin.run)
      ∙ sym has.is;
  apart = λ scenario answer fault refusal has none stop. never-uncounted scenario choice has.run.counts fault refusal has.run.counted none stop;
  stops = λ scenario fault other refusal twin none are stop again. refusal-one scenario (seed_by scenario choice) fault other refusal twin none.cause are.cause stop again;
}

case : (choice : Choice) (save : Option (List ℕ)) (bytes : List ℕ) (answer : Answer) → plan_answer choice save bytes answer → Case (HasRun choice save bytes) (uncounted choice) bytes answer
case choice save bytes (Report status text saved) is =
    Reported is.scenario is.form (record { outcome = is.outcome; run = is.run; is = λ i. Report (is.ends i) (is.printed i) (is.kept i) })
case choice save bytes (Refusal (Scenario fault)) is = Faulty fault is refl
case choice save bytes (Refusal ProfileStepLimit) is = Stopped is.scenario is.form StepLimit ProfileStepLimit is.stopped refl refl
case choice save bytes (Refusal (ProfileDeadlock step)) is = Stopped is.scenario is.form (Deadlock step) (ProfileDeadlock step) is.stopped refl refl
case choice save bytes (Refusal _) is = absurd is

pub plan-one : (choice : Choice) (save : Option (List ℕ)) → MakesOne (plan_answer choice save)
plan-one choice save bytes answer other is twin =
    case-one (HasRun choice save bytes) (uncounted choice) (one-report choice save bytes) bytes answer other (case choice save bytes answer is) (case choice save bytes other twin)
