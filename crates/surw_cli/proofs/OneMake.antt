-- The job `make` makes one answer of a number.
use Rattle.std.proofs.Common.{◌≡◌, ℕ, None, refl, ap, sym, ◌∙◌}
use Rattle.fault_text.specs.declared.fault.Fault.{Fault}
use Rattle.fault_text.specs.declared.fault.Fault.TheVariants.{ProfileStepLimit, ProfileDeadlock}
use Rattle.pure_run.specs.declared.profiling.ProfileFault.{ProfileFault}
use Rattle.pure_run.specs.declared.profiling.ProfileFault.TheVariants.{StepLimit, Deadlock}
use Rattle.run_rules.specs.Run.{Outcome}
use Rattle.scenario_toml.specs.Chosen.{seed_by}
use Rattle.scenario_toml.specs.Made.{made}
use Rattle.surw_cli.specs.Answer.{Answer, Report, Refusal}
use Rattle.surw_cli.specs.Counts.{IsUncounted}
use Rattle.surw_cli.specs.MakeAnswer.{made_text, make_answer, no_choice}
use Rattle.surw_cli.specs.Planned.{IsRunOf, status_of_run}
use Rattle.surw_cli.specs.Stop.{stop_of_profile}
use Rattle.surw_cli.specs.declared.stop.Stop.TheVariants.{Refused}
use Rattle.surw_cli.proofs.OneCounts.{never-uncounted}
use Rattle.surw_cli.proofs.OnePlan.{outcome-one}
use Rattle.surw_cli.proofs.OneProfile.{refusal-one}

-- what is printed of the run, with the status of its end
abbrev report_of : Outcome → Answer
report_of outcome = Report (status_of_run outcome) (made_text outcome) None

-- the run of the scenario is printed, or its counts are refused
data Case (number : ℕ) (answer : Answer) : Type 0 where
  Made : (outcome : Outcome) → IsRunOf (made number) no_choice outcome → answer ≡ report_of outcome → Case number answer
  Stopped : (fault : ProfileFault) (refusal : Fault) → IsUncounted (made number) no_choice fault → stop_of_profile fault ≡ Refused refusal
      → answer ≡ Refusal refusal → Case number answer

case : (number : ℕ) (answer : Answer) → make_answer number answer → Case number answer
case number (Report status text None) is = Made is.outcome is.run (λ i. Report (is.ends i) (is.printed i) None)
case number (Refusal ProfileStepLimit) is = Stopped StepLimit ProfileStepLimit is refl refl
case number (Refusal (ProfileDeadlock step)) is = Stopped (Deadlock step) (ProfileDeadlock step) is refl refl
case number _ is = absurd is

case-one : (number : ℕ) (answer other : Answer) → Case number answer → Case number other → other ≡ answer
case-one number answer other (Made outcome run is) (Made twin again same) =
    same ∙ ap report_of (outcome-one (made number) no_choice outcome twin run again) ∙ sym is
case-one number answer other (Made outcome run is) (Stopped fault refusal none stop same) =
    absurd (never-uncounted (made number) no_choice run.counts fault refusal run.counted none stop)
case-one number answer other (Stopped fault refusal none stop is) (Made twin again same) =
    absurd (never-uncounted (made number) no_choice again.counts fault refusal again.counted none stop)
case-one number answer other (Stopped fault refusal none stop is) (Stopped cause twin are restop same) =
    same
    ∙ ap (λ (f : Fault). Refusal f) (refusal-one (made number) (seed_by (made number) no_choice) fault cause refusal twin none.cause are.cause stop restop)
    ∙ sym is

pub make-one : (number : ℕ) (answer other : Answer) → make_answer number answer → make_answer number other → other ≡ answer
make-one number answer other is twin = case-one number answer other (case number answer is) (case number other twin)
