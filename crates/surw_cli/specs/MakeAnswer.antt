-- The answer of the job `make` to its number.
use Rattle.std.specs.Prelude.{◌≡◌, ◌++◌, ℕ, List, [], ◌∷◌, None, codes}
use Rattle.fault_text.specs.declared.fault.Fault.TheVariants.{ProfileStepLimit, ProfileDeadlock}
use Rattle.hex.specs.Hex.{encode_lower}
use Rattle.pure_run.specs.declared.profiling.ProfileFault.TheVariants as profile
use Rattle.report_text.specs.Report.{summary_text}
use Rattle.report_text.specs.StepLines.{steps_text}
use Rattle.run_rules.specs.Run.{Outcome}
use Rattle.scenario_toml.specs.Made.{made}
use Rattle.scenario_toml.specs.declared.choice.Choice.{Choice}
use Rattle.sha2.specs.Sha256.{sha256}
use Rattle.surw_cli.specs.Answer.{Answer, Report, Refusal}
use Rattle.surw_cli.specs.Counts.{IsUncounted}
use Rattle.surw_cli.specs.Planned.{IsRunOf, status_of_run}
use Rattle.surw_cli.specs.declared.status.Status.{Status}

-- nothing is chosen in place of a scenario's values
abbrev pub no_choice : Choice
no_choice = record { strategy = None; seed = None; depth = None }

-- the line of a digest, which is told in lower-case hexadecimal digits
abbrev pub digest_line : List ℕ → List ℕ
digest_line digest = codes "journal " ++ encode_lower digest ++ 10 ∷ []

-- what is printed of a run: its lines but those of the steps, and the digest of these
abbrev pub made_text : Outcome → List ℕ
made_text outcome = summary_text outcome ++ digest_line (sha256 (steps_text outcome.journal))

-- the run of the scenario that the number makes is printed so, and its end is the status
pub record IsMadeReport (number : ℕ) (status : Status) (text : List ℕ) : Type 0 where
  pub outcome : Outcome
  pub run : IsRunOf (made number) no_choice outcome
  pub printed : text ≡ made_text outcome
  pub ends : status ≡ status_of_run outcome

-- no two cases hold of one number
abbrev pub make_answer : ℕ → Answer → Type 0
make_answer number (Report status text None) = IsMadeReport number status text
make_answer number (Refusal ProfileStepLimit) = IsUncounted (made number) no_choice profile.StepLimit
make_answer number (Refusal (ProfileDeadlock step)) = IsUncounted (made number) no_choice (profile.Deadlock step)
make_answer number _ = ⊥
