-- How a call ends whose words aren't read.
use Rattle.std.proofs.Common.{◌≡◌, ◌⊎◌, ℕ, List, Result, Err, inl, inr, refl}
use Rattle.command_words.specs.Ask.{Ask, AsksFor, AsksForNothing}
use Rattle.command_words.specs.declared.job.Job.{Job}
use Rattle.command_words.specs.declared.words.WordFault.{WordFault}
use Rattle.command_words.specs.declared.words.WordFault.TheVariants.{Form}
use Rattle.command_words.specs.declared.words.WordFault.TheVariants as word
use Rattle.fault_text.specs.declared.fault.Fault.{Fault}
use Rattle.fault_text.specs.declared.fault.Fault.TheVariants as fault
use Rattle.surw_cli.specs.CommandAnswer.{Files, IsAnswer, NoJob}
use Rattle.surw_cli.specs.Reached.{OpensFor, WasUnread}
use Rattle.surw_cli.specs.Status.{status_of}
use Rattle.surw_cli.specs.Stop.{IsStopAt, stop_of_words}
use Rattle.surw_cli.specs.declared.report.Report.{Report}
use Rattle.surw_cli.specs.declared.status.Status.{Status}
use Rattle.surw_cli.specs.declared.status.Status.TheVariants.{Words, OutOfMemory}
use Rattle.surw_cli.specs.declared.stop.Stop.{Stop}
use Rattle.surw_cli.specs.declared.stop.Stop.TheVariants.{Refused}
use Rattle.surw_cli.specs.declared.stop.Stop.TheVariants as stop

-- they stop it with the answer that they ask for nothing, or memory was refused
pub words-stop : (jobs : List Job) (words : List (List ℕ)) (files : Files) (before : ℕ) (fault : WordFault) → (fault ≡ Form → AsksForNothing jobs words)
    → IsStopAt (IsAnswer jobs words files) before before (stop_of_words fault)
words-stop jobs words files before Form none = (refl, NoJob (none refl) refl)
words-stop jobs words files before word.OutOfMemory none = refl

-- with the status of that
pub words-status : (fault : WordFault) (report : Result Report Stop) (status : Status) → report ≡ Err (stop_of_words fault)
    → ((cause : Fault) → report ≡ Err (Refused cause) → status ≡ status_of cause) → (report ≡ Err stop.OutOfMemory → status ≡ OutOfMemory)
    → (status ≡ Words) ⊎ (status ≡ OutOfMemory)
words-status Form report status is refused none = inl (refused fault.Words is)
words-status word.OutOfMemory report status is refused none = inr (none is)

-- and no file is opened
pub words-opened : (jobs : List Job) (words : List (List ℕ)) (ask : Ask) (fault : WordFault) (report : Result Report Stop) (status : Status) (before now : ℕ)
    → (fault ≡ Form → AsksForNothing jobs words) → AsksFor jobs words ask → report ≡ Err (stop_of_words fault) → (report ≡ Err stop.OutOfMemory → status ≡ OutOfMemory)
    → now ≡ before → OpensFor ask.job before now ⊎ WasUnread before now status
words-opened jobs words ask Form report status before now none asked is memory opens = absurd (none refl ask asked)
words-opened jobs words ask word.OutOfMemory report status before now none asked is memory opens = inr (memory is, opens)
