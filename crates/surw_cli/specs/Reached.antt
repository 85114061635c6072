-- What a call comes to, before it is told.
use Rattle.std.specs.Prelude.{◌≡◌, ◌⊎◌, ℕ, Option, Result, Ok, Err, option_map, string_bytes}
use Rattle.command_words.specs.declared.job.Job.{Job}
use Rattle.command_words.specs.declared.job.Job.TheVariants.{Make, Replay}
use Rattle.report_text.specs.Report.{report_text}
use Rattle.run_rules.specs.Run.{Outcome}
use Rattle.surw_io.specs.Cause.{one_more}
use Rattle.surw_io.specs.Made.{CreatedFile}
use Rattle.surw_cli.specs.Answer.{Answer}
use Rattle.surw_cli.specs.Answer as answer
use Rattle.surw_cli.specs.Planned.{status_of_run}
use Rattle.surw_cli.specs.Stop.{IsStopAt}
use Rattle.surw_cli.specs.declared.report.Report.{Report}
use Rattle.surw_cli.specs.declared.report.SavedFile.{SavedFile}
use Rattle.surw_cli.specs.declared.status.Status.{Status}
use Rattle.surw_cli.specs.declared.status.Status.TheVariants.{OutOfMemory}
use Rattle.surw_cli.specs.declared.stop.Stop.{Stop}

-- a file that is to be saved, by its name and its bytes
abbrev pub to_create : SavedFile → CreatedFile
to_create file = record { name = string_bytes file.name; bytes = file.text.items }

-- a report as an answer
abbrev pub report_answer : Report → Answer
report_answer report = answer.Report report.status report.text.items (option_map to_create report.saved)

-- the report of a run, with the file that is saved
pub record TellsRun (outcome : Outcome) (saved : Option SavedFile) (report : Report) : Type 0 where
  pub printed : report.text.items ≡ report_text outcome
  pub ends : report.status ≡ status_of_run outcome
  pub kept : report.saved ≡ saved

-- a report that is such an answer, where no count of the shelf rose; or how the job stopped
abbrev pub ComesTo : (Answer → Type 0) → ℕ → ℕ → Result Report Stop → Type 0
ComesTo IsMade before now (Ok report) = IsMade (report_answer report) × (now ≡ before)
ComesTo IsMade before now (Err stop) = IsStopAt IsMade before now stop

-- how often files were opened behind a job's first: a replay opens its saved file once, or not at all
abbrev pub OpensMore : Job → ℕ → ℕ → Type 0
OpensMore Replay before now = (now ≡ before) ⊎ (now ≡ one_more before)
OpensMore job before now = now ≡ before

-- and with the first, which `make` hasn't
abbrev pub OpensFor : Job → ℕ → ℕ → Type 0
OpensFor Make before now = now ≡ before
OpensFor job before now = OpensMore job (one_more before) now

-- memory for the words was refused, and no file opened
abbrev pub WasUnread : ℕ → ℕ → Status → Type 0
WasUnread before now status = (status ≡ OutOfMemory) × (now ≡ before)
