-- How the top call ends where no device fails.
use Rattle.std.proofs.Common.{◌≡◌, ◌≢◌, ◌⊎◌, ℕ, List, Option, Some, inl, inr, ⊎_elim, refl}
use Rattle.fault_text.specs.declared.fault.Fault.TheVariants.{Read}
use Rattle.surw_io.specs.Cause.{Rose}
use Rattle.surw_io.specs.Content.{Entry, Missing}
use Rattle.surw_base.specs.declared.limits.TheConstants.{SAVED_LIMIT}
use Rattle.surw_cli.specs.Answer.{Answer, Report, Refusal}
use Rattle.command_words.specs.Ask.{Ask}
use Rattle.surw_cli.specs.CommandAnswer.{Files, IsAnswer, NoJob, OfJob, answer_of, answer_to, saved_name}
use Rattle.surw_cli.specs.Ending.{Call, Ends, IsAnswered, WasRefused, WasReported}
use Rattle.surw_cli.specs.FileAnswer.{Coming, IsFileAnswer, Absent, Long, Held}
use Rattle.surw_cli.specs.Jobs.{file_limit}
use Rattle.surw_cli.specs.ReplayAnswer.{IsReplayAnswer, NoScenario, OfSaved, replayed_answer}
use Rattle.command_words.specs.declared.job.Job.{Job}
use Rattle.command_words.specs.declared.job.Job.TheVariants.{Order, Draws, Plan, Profile, Check, Make, Run, Replay}
use Rattle.surw_cli.proofs.JobAnswers.{job-answers}
use Rattle.surw_cli.specs.declared.status.Status.{Status}
use Rattle.surw_cli.specs.declared.status.Status.TheVariants.{Done, Failing, Words, Form, WrongCount, Asked, SavedForm, StepLimit, ReadFault, WriteFault, OutOfMemory, Draw, TooLong}

-- ---- where every name has a file, no answer is a fault of reading

file-there : (limit : ℕ) (IsMade : List ℕ → Answer → Type 0) (coming : Option Entry) → coming ≢ Some Missing → ((bytes : List ℕ) → IsMade bytes (Refusal Read) → ⊥)
    → IsFileAnswer limit IsMade coming (Refusal Read) → ⊥
file-there limit IsMade coming there none (Absent missing is) = there missing
file-there limit IsMade coming there none (Long long is) = cc is
file-there limit IsMade coming there none (Held bytes file made) = none bytes made

replay-there : (bytes : List ℕ) (coming : Option Entry) → coming ≢ Some Missing → IsReplayAnswer bytes coming (Refusal Read) → ⊥
replay-there bytes coming there (NoScenario fault wrong is) = cc is
replay-there bytes coming there (OfSaved scenario form made) =
    file-there SAVED_LIMIT (replayed_answer bytes scenario) coming there (λ saved_bytes none. none) made

job-there : (job : Job) (ask : Ask) (second : Coming) (bytes : List ℕ) → ((name : List ℕ) → second name ≢ Some Missing)
    → answer_of job ask second bytes (Refusal Read) → ⊥
job-there Order ask second bytes there made = made
job-there Draws ask second bytes there made = made
job-there Plan ask second bytes there made = made
job-there Profile ask second bytes there made = made
job-there Check ask second bytes there made = made
job-there Make ask second bytes there made = made
job-there Run ask second bytes there made = made
job-there Replay ask second bytes there made = replay-there bytes (second (saved_name ask.saved)) (there (saved_name ask.saved)) made

never-read : (jobs : List Job) (words : List (List ℕ)) (files : Files) → ((name : List ℕ) → files.first name ≢ Some Missing)
    → ((name : List ℕ) → files.second name ≢ Some Missing) → IsAnswer jobs words files (Refusal Read) → ⊥
never-read jobs words files first second (NoJob none is) = cc is
never-read jobs words files first second (OfJob ask asked made) =
    ⊎_elim
    (λ over. file-there (file_limit ask.job) (answer_to ask files.second) (files.first ask.name) (first ask.name)
    (λ bytes made. job-there ask.job ask files.second bytes second made) over)
    (λ own. own)
    (job-answers ask.job ask files (Refusal Read) made)

-- ---- how it ends

reported : (call : Call) (status : Status) → WasReported call status → IsAnswered call.jobs call.words call.files status
reported call status was = record { answer = Report status was.text was.saved; cause = was.cause; is = refl }

refused : (call : Call) (status : Status) → WasRefused call status → IsAnswered call.jobs call.words call.files status
refused call status was = record { answer = Refusal was.fault; cause = was.cause; is = was.is }

-- no count rose, and every name has a file
pub record IsSafe (call : Call) : Type 0 where
  pub opens : Rose call.before.in_faults call.now.in_faults → ⊥
  pub creates : Rose call.before.out_faults call.now.out_faults → ⊥
  pub sink : Rose call.before.sink_faults call.now.sink_faults → ⊥
  pub first : (name : List ℕ) → call.files.first name ≢ Some Missing
  pub second : (name : List ℕ) → call.files.second name ≢ Some Missing

-- then there is no fault of reading or writing
pub never-read-fault : (call : Call) → IsSafe call → Ends call ReadFault → ⊥
never-read-fault call safe ends =
    ⊎_elim (λ rose. safe.opens rose) (λ none. never-read call.jobs call.words call.files safe.first safe.second none.1) ends.cause

pub never-write-fault : (call : Call) → IsSafe call → Ends call WriteFault → ⊥
never-write-fault call safe ends = ⊎_elim (λ at_report. safe.sink at_report.told.rose) (λ at_file. safe.creates at_file.kept.rose) ends

-- and the status is that of the answer, or there was no memory
pub safe-answered : (call : Call) (status : Status) → IsSafe call → Ends call status → (status ≡ OutOfMemory) ⊎ IsAnswered call.jobs call.words call.files status
safe-answered call Done safe ends = inr (reported call Done ends)
safe-answered call Failing safe ends = inr (reported call Failing ends)
safe-answered call WrongCount safe ends = inr (reported call WrongCount ends)
safe-answered call StepLimit safe ends = inr (reported call StepLimit ends)
safe-answered call Words safe ends = inr (refused call Words ends)
safe-answered call Form safe ends = inr (refused call Form ends)
safe-answered call ReadFault safe ends = absurd (never-read-fault call safe ends)
safe-answered call WriteFault safe ends = absurd (never-write-fault call safe ends)
safe-answered call OutOfMemory safe ends = inl refl
safe-answered call Draw safe ends = inr (⊎_elim (reported call Draw) (refused call Draw) ends)
safe-answered call TooLong safe ends = inr (refused call TooLong ends)
safe-answered call Asked safe ends = inr (reported call Asked ends)
safe-answered call SavedForm safe ends = inr (refused call SavedForm ends)
