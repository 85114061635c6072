-- What a call comes to, once it has its file.
use Rattle.std.proofs.Common.{◌≡◌, ◌≢◌, refl, Result, Ok, Err, IfOk, IfErr, List, Option, ℕ, inl, subst, sym}
use Rattle.surw_io.specs.Cause.{one_more}
use Rattle.surw_io.specs.Made.{Made}
use Rattle.surw_cli.specs.Answer.{Answer}
use Rattle.command_words.proofs.Asks.{one-ask}
use Rattle.command_words.specs.Ask.{Ask, AsksFor}
use Rattle.surw_cli.specs.CommandAnswer.{Files, IsAskAnswer, answer_to}
use Rattle.surw_cli.specs.Ending.{Call, Ends}
use Rattle.surw_cli.specs.FileAnswer.{HasFile, Held}
use Rattle.surw_cli.specs.Jobs.{file_limit}
use Rattle.surw_cli.specs.Reached.{ComesTo, OpensFor, OpensMore, report_answer}
use Rattle.surw_cli.specs.Stop.{IsStopAt, IsStopOf, IsUnfetched}
use Rattle.command_words.specs.declared.job.Job.{Job}
use Rattle.command_words.specs.declared.job.Job.TheVariants.{Order, Draws, Plan, Profile, Check, Make, Run, Replay}
use Rattle.surw_cli.specs.declared.report.Report.{Report}
use Rattle.surw_cli.specs.declared.status.Status.{Status}
use Rattle.surw_cli.specs.declared.stop.Stop.{Stop}
use Rattle.surw_cli.proofs.JobAnswers.{IsOverFile, over-file}
use Rattle.surw_cli.proofs.Stops.{calm-stop, stop-map, unfetched-stop}

-- what a job makes of the bytes of its file, where no count rose
pub comes-of : (P : Answer → Type 0) (before now : ℕ) (result : Result Report Stop) → now ≡ before → IfOk result (λ report. P (report_answer report))
    → IfErr result (IsStopOf P) → ComesTo P before now result
comes-of P before now (Ok report) calm made stopped = (made, calm)
comes-of P before now (Err stop) calm made stopped = calm-stop P before now stop calm stopped

-- what is said of one kind of answers may be said of another
pub comes-map : (P Q : Answer → Type 0) (before now : ℕ) (result : Result Report Stop) → ((answer : Answer) → P answer → Q answer) → ComesTo P before now result
    → ComesTo Q before now result
comes-map P Q before now (Ok report) more comes = (more (report_answer report) comes.0, comes.1)
comes-map P Q before now (Err stop) more comes = stop-map P Q before now stop more comes

-- what stands at the start of telling stood there at the start of the call
pub ends-from : (call : Call) (out_faults : ℕ) (made : Option Made) (status : Status) → out_faults ≡ call.before.out_faults → made ≡ call.before.made
    → Ends (record call { before = record call.before { out_faults = out_faults; made = made } }) status → Ends call status
ends-from call out_faults made status out_is made_is ends =
    subst (λ (m : Option Made). Ends (record call { before = record call.before { made = m } }) status) made_is
    (subst (λ (n : ℕ). Ends (record call { before = record call.before { out_faults = n; made = made } }) status) out_is ends)

-- a job over its file comes to an answer to what is asked for
pub comes-over : (ask : Ask) (files : Files) (bytes : List ℕ) (before now : ℕ) (result : Result Report Stop) → ask.job ≢ Make
    → HasFile (file_limit ask.job) (files.first ask.name) bytes → ComesTo (answer_to ask files.second bytes) before now result
    → ComesTo (IsAskAnswer ask files) before now result
comes-over ask files bytes before now result other file comes =
    comes-map (answer_to ask files.second bytes) (IsAskAnswer ask files) before now result
    (λ answer made. over-file ask.job ask files answer other (Held bytes file made)) comes

-- and so it does where its file isn't fetched
pub unfetched-over : (ask : Ask) (files : Files) (before now : ℕ) (stop : Stop) → ask.job ≢ Make
    → IsUnfetched (file_limit ask.job) (files.first ask.name) before now stop → IsStopAt (IsAskAnswer ask files) before now stop
unfetched-over ask files before now stop other none =
    stop-map (IsOverFile ask.job ask files) (IsAskAnswer ask files) before now stop (λ answer made. over-file ask.job ask files answer other made)
    (unfetched-stop (file_limit ask.job) (answer_to ask files.second) (files.first ask.name) before now stop none)

-- how often files were opened
pub opens-over : (job : Job) (before now : ℕ) → job ≢ Make → OpensMore job (one_more before) now → OpensFor job before now
opens-over Order before now other is = is
opens-over Draws before now other is = is
opens-over Plan before now other is = is
opens-over Profile before now other is = is
opens-over Check before now other is = is
opens-over Make before now other is = absurd (other refl)
opens-over Run before now other is = is
opens-over Replay before now other is = is

pub opens-first : (job : Job) (before now : ℕ) → job ≢ Make → now ≡ one_more before → OpensFor job before now
opens-first Order before now other is = is
opens-first Draws before now other is = is
opens-first Plan before now other is = is
opens-first Profile before now other is = is
opens-first Check before now other is = is
opens-first Make before now other is = absurd (other refl)
opens-first Run before now other is = is
opens-first Replay before now other is = inl is

pub opens-for : (jobs : List Job) (words : List (List ℕ)) (ask other : Ask) (before more now : ℕ) → AsksFor jobs words ask → AsksFor jobs words other
    → OpensFor ask.job before more → now ≡ more → OpensFor other.job before now
opens-for jobs words ask other before more now asked again opens now_is =
    subst (λ (a : Ask). OpensFor a.job before now) (sym (one-ask jobs words ask other asked again))
    (subst (λ (n : ℕ). OpensFor ask.job before n) (sym now_is) opens)
