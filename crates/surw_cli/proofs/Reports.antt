-- How a job that has a report ends.
use Rattle.std.proofs.Common.{Bool, true, false, cond, is_some, subst, sym, inl, ⊎_elim, ℕ, List, Option, None, Some}
use Rattle.std.specs.List.{list_any}
use Rattle.run_rules.specs.declared.verdict.Verdict.{Verdict}
use Rattle.run_rules.specs.declared.verdict.Verdict.TheVariants as verdict
use Rattle.scenario_toml.specs.State.{ScenarioState}
use Rattle.scenario_toml.specs.declared.choice.Choice.{Choice}
use Rattle.surw_base.specs.declared.limits.TheConstants.{SAVED_LIMIT}
use Rattle.surw_io.specs.Content.{Entry}
use Rattle.surw_io.specs.Made.{CreatedFile}
use Rattle.surw_cli.specs.Answer.{Answer, Report}
use Rattle.command_words.specs.Ask.{Ask}
use Rattle.surw_cli.specs.CheckAnswer.{check_answer}
use Rattle.surw_cli.specs.CommandAnswer.{Files, IsAnswer, NoJob, OfJob, answer_of, answer_to, saved_name}
use Rattle.surw_cli.specs.DrawsAnswer.{draws_answer}
use Rattle.surw_cli.specs.Ending.{Call, Created, Ends, IsCalm, WasReported, Wrote}
use Rattle.surw_cli.specs.FileAnswer.{Coming, IsFileAnswer, Absent, Long, Held}
use Rattle.surw_cli.specs.Jobs.{file_limit}
use Rattle.surw_cli.specs.MakeAnswer.{make_answer}
use Rattle.surw_cli.specs.OrderAnswer.{order_answer}
use Rattle.surw_cli.specs.PlanAnswer.{plan_answer}
use Rattle.surw_cli.specs.Planned.{status_by}
use Rattle.surw_cli.specs.ProfileAnswer.{profile_answer}
use Rattle.surw_cli.specs.ReplayAnswer.{IsReplayAnswer, NoScenario, OfSaved, replayed_answer}
use Rattle.command_words.specs.declared.job.Job.{Job}
use Rattle.command_words.specs.declared.job.Job.TheVariants.{Order, Draws, Plan, Profile, Check, Make, Run, Replay}
use Rattle.surw_cli.specs.declared.status.Status.{Status}
use Rattle.surw_cli.specs.declared.status.Status.TheVariants.{Done, Failing, WrongCount, Asked, StepLimit, Draw}
use Rattle.surw_cli.proofs.JobAnswers.{job-answers}

-- a status that a report can end with
IsReportable : Status → Type 0
IsReportable Done = Unit {0}
IsReportable Failing = Unit {0}
IsReportable WrongCount = Unit {0}
IsReportable Asked = Unit {0}
IsReportable StepLimit = Unit {0}
IsReportable Draw = Unit {0}
IsReportable _ = ⊥

reportable-end : (failed : Bool) → IsReportable (cond failed Failing Done)
unfolding IsReportable
reportable-end true = tt
reportable-end false = tt

reportable-run : (found : Verdict) (failed : Bool) → IsReportable (status_by found failed)
unfolding IsReportable
reportable-run verdict.Ended failed = reportable-end failed
reportable-run (verdict.Deadlock step) failed = tt
reportable-run (verdict.WrongCount step thread counted seen) failed = tt
reportable-run (verdict.Draw step fault) failed = tt
reportable-run (verdict.Asked step thread event announced) failed = tt
reportable-run (verdict.Left step thread) failed = tt
reportable-run (verdict.StepLimit step) failed = tt

reportable-plan : (choice : Choice) (save : Option (List ℕ)) (bytes : List ℕ) (status : Status) (text : List ℕ) (saved : Option CreatedFile) → plan_answer choice save bytes (Report status text saved)
    → IsReportable status
reportable-plan choice save bytes status text saved made =
    subst (λ s. IsReportable s) (sym made.ends) (reportable-run made.outcome.verdict (list_any is_some made.outcome.failed))

reportable-order : (bytes : List ℕ) (status : Status) (text : List ℕ) (saved : Option CreatedFile) → order_answer bytes (Report status text saved) → IsReportable status
unfolding IsReportable
reportable-order bytes Done text None made = tt
reportable-order bytes Done text (Some file) made = absurd made
reportable-order bytes _ text saved made = absurd made

reportable-draws : (bytes : List ℕ) (status : Status) (text : List ℕ) (saved : Option CreatedFile) → draws_answer bytes (Report status text saved) → IsReportable status
unfolding IsReportable
reportable-draws bytes Done text None made = tt
reportable-draws bytes Done text (Some file) made = absurd made
reportable-draws bytes _ text saved made = absurd made

reportable-profile : (choice : Choice) (bytes : List ℕ) (status : Status) (text : List ℕ) (saved : Option CreatedFile) → profile_answer choice bytes (Report status text saved)
    → IsReportable status
unfolding IsReportable
reportable-profile choice bytes Done text None made = tt
reportable-profile choice bytes Done text (Some file) made = absurd made
reportable-profile choice bytes _ text saved made = absurd made

reportable-make : (number : ℕ) (status : Status) (text : List ℕ) (saved : Option CreatedFile) → make_answer number (Report status text saved) → IsReportable status
reportable-make number status text None made =
    subst (λ s. IsReportable s) (sym made.ends) (reportable-run made.outcome.verdict (list_any is_some made.outcome.failed))
reportable-make number status text (Some file) made = absurd made

reportable-check : (bytes : List ℕ) (status : Status) (text : List ℕ) (saved : Option CreatedFile) → check_answer bytes (Report status text saved) → IsReportable status
unfolding IsReportable
reportable-check bytes Done text None made = tt
reportable-check bytes Done text (Some file) made = absurd made
reportable-check bytes _ text saved made = absurd made

reportable-replayed : (bytes : List ℕ) (scenario : ScenarioState) (saved_bytes : List ℕ) (status : Status) (text : List ℕ) (saved : Option CreatedFile)
    → replayed_answer bytes scenario saved_bytes (Report status text saved) → IsReportable status
reportable-replayed bytes scenario saved_bytes status text None made =
    subst (λ s. IsReportable s) (sym made.ends) (reportable-run made.outcome.verdict (list_any is_some made.outcome.failed))
reportable-replayed bytes scenario saved_bytes status text (Some file) made = absurd made

reportable-file : (limit : ℕ) (IsMade : List ℕ → Answer → Type 0) (coming : Option Entry) (status : Status) (text : List ℕ) (saved : Option CreatedFile)
    → ((bytes : List ℕ) → IsMade bytes (Report status text saved) → IsReportable status) → IsFileAnswer limit IsMade coming (Report status text saved) → IsReportable status
reportable-file limit IsMade coming status text saved each (Absent there is) = cc is
reportable-file limit IsMade coming status text saved each (Long long is) = cc is
reportable-file limit IsMade coming status text saved each (Held bytes file made) = each bytes made

reportable-replay : (bytes : List ℕ) (coming : Option Entry) (status : Status) (text : List ℕ) (saved : Option CreatedFile)
    → IsReplayAnswer bytes coming (Report status text saved) → IsReportable status
reportable-replay bytes coming status text saved (NoScenario fault wrong is) = cc is
reportable-replay bytes coming status text saved (OfSaved scenario form made) =
    reportable-file SAVED_LIMIT (replayed_answer bytes scenario) coming status text saved
    (λ saved_bytes made. reportable-replayed bytes scenario saved_bytes status text saved made) made

reportable-job : (job : Job) (ask : Ask) (second : Coming) (bytes : List ℕ) (status : Status) (text : List ℕ) (saved : Option CreatedFile)
    → answer_of job ask second bytes (Report status text saved) → IsReportable status
reportable-job Order ask second bytes status text saved made = reportable-order bytes status text saved made
reportable-job Draws ask second bytes status text saved made = reportable-draws bytes status text saved made
reportable-job Plan ask second bytes status text saved made = reportable-plan ask.choice ask.save bytes status text saved made
reportable-job Make ask second bytes status text saved made = reportable-make ask.number status text saved made
reportable-job Run ask second bytes status text saved made = reportable-plan ask.choice ask.save bytes status text saved made
reportable-job Profile ask second bytes status text saved made = reportable-profile ask.choice bytes status text saved made
reportable-job Check ask second bytes status text saved made = reportable-check bytes status text saved made
reportable-job Replay ask second bytes status text saved made = reportable-replay bytes (second (saved_name ask.saved)) status text saved made

reportable : (jobs : List Job) (words : List (List ℕ)) (files : Files) (status : Status) (text : List ℕ) (saved : Option CreatedFile)
    → IsAnswer jobs words files (Report status text saved) → IsReportable status
reportable jobs words files status text saved (NoJob none is) = cc is
reportable jobs words files status text saved (OfJob ask asked made) =
    ⊎_elim
    (λ over. reportable-file (file_limit ask.job) (answer_to ask files.second) (files.first ask.name) status text saved
    (λ bytes made. reportable-job ask.job ask files.second bytes status text saved made) over)
    (λ own. reportable-make ask.number status text saved own)
    (job-answers ask.job ask files (Report status text saved) made)

reported-ends : (call : Call) (status : Status) → IsReportable status → WasReported call status → Ends call status
unfolding IsReportable
reported-ends call Done can was = was
reported-ends call Failing can was = was
reported-ends call WrongCount can was = was
reported-ends call Asked can was = was
reported-ends call StepLimit can was = was
reported-ends call Draw can was = inl was
reported-ends call _ can was = absurd can

-- a report that was written behind the file that is saved ends with its status
pub report-ends : (call : Call) (status : Status) (text : List ℕ) (saved : Option CreatedFile) → IsAnswer call.jobs call.words call.files (Report status text saved)
    → Created call saved → Wrote call text → IsCalm call → Ends call status
report-ends call status text saved cause kept told calm =
    reported-ends call status (reportable call.jobs call.words call.files status text saved cause)
    (record { text = text; saved = saved; cause = cause; kept = kept; told = told; calm = calm })
