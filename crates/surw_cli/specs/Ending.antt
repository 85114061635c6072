-- How the top call ends: the cause of each status, and what stands after it.
use Rattle.std.specs.Prelude.{◌≡◌, ◌⊎◌, ℕ, List, Option, None, Some}
use Rattle.surw_io.specs.Cause.{Rose}
use Rattle.surw_io.specs.Content.{with_end, HoldsPrefix}
use Rattle.surw_io.specs.Made.{CreatedFile, Made, with_file, HoldsFilePrefix}
use Rattle.fault_text.specs.FaultText.{fault_text}
use Rattle.fault_text.specs.declared.fault.Fault.{Fault}
use Rattle.fault_text.specs.declared.fault.Fault.TheVariants.{Read}
use Rattle.surw_cli.specs.Answer.{Answer, Report, Refusal}
use Rattle.surw_cli.specs.CommandAnswer.{Files, IsAnswer}
use Rattle.surw_cli.specs.Status.{status_of}
use Rattle.command_words.specs.declared.job.Job.{Job}
use Rattle.surw_cli.specs.declared.status.Status.{Status}
use Rattle.surw_cli.specs.declared.status.Status.TheVariants.{Done, Failing, Words, Form, WrongCount, Asked, SavedForm, StepLimit, ReadFault, WriteFault, OutOfMemory, Draw, TooLong}

-- what stands outside: the counts of faults, what was made on the shelf and what the sink has taken, where they tell it
pub record Outside : Type 0 where
  pub in_faults : ℕ
  pub out_faults : ℕ
  pub made : Option Made
  pub sink_faults : ℕ
  pub taken : Option (List ℕ)

-- what a call does and was given, and what stood before it and stands now
pub record Call : Type 0 where
  pub jobs : List Job
  pub words : List (List ℕ)
  pub files : Files
  pub before : Outside
  pub now : Outside

-- no count of opens and reads rose
abbrev pub IsCalm : Call → Type 0
IsCalm call = call.now.in_faults ≡ call.before.in_faults

-- the text was written, whole
pub record Wrote (call : Call) (text : List ℕ) : Type 0 where
  pub added : call.now.taken ≡ with_end call.before.taken text
  pub calm : call.now.sink_faults ≡ call.before.sink_faults

-- the sink failed at the text, so a prefix of it was written
pub record WrotePrefix (call : Call) (text : List ℕ) : Type 0 where
  pub added : HoldsPrefix call.before.taken text call.now.taken
  pub rose : Rose call.before.sink_faults call.now.sink_faults

-- nothing was written
pub record WroteNothing (call : Call) : Type 0 where
  pub kept : call.now.taken ≡ call.before.taken
  pub calm : call.now.sink_faults ≡ call.before.sink_faults

-- with this file created, if it is one
abbrev pub with_saved : Option Made → Option CreatedFile → Option Made
with_saved told None = told
with_saved told (Some file) = with_file told file.name file.bytes

-- this file was created, whole, if it is one, and nothing else
pub record Created (call : Call) (saved : Option CreatedFile) : Type 0 where
  pub made : call.now.made ≡ with_saved call.before.made saved
  pub calm : call.now.out_faults ≡ call.before.out_faults

-- the shelf failed at the file, so it wasn't created, or has a prefix of its bytes
pub record CreatedPrefix (call : Call) (file : CreatedFile) : Type 0 where
  pub made : (call.now.made ≡ call.before.made) ⊎ HoldsFilePrefix call.before.made file.name file.bytes call.now.made
  pub rose : Rose call.before.out_faults call.now.out_faults

-- the refusal was answered, and told as far as the sink took it; no file was created
pub record WasRefused (call : Call) (status : Status) : Type 0 where
  pub fault : Fault
  pub is : status ≡ status_of fault
  pub cause : IsAnswer call.jobs call.words call.files (Refusal fault)
  pub told : Wrote call (fault_text fault) ⊎ WrotePrefix call (fault_text fault)
  pub calm : IsCalm call
  pub unsaved : Created call None

-- the report that ends with this status was written, and before it the file that is saved
pub record WasReported (call : Call) (status : Status) : Type 0 where
  pub text : List ℕ
  pub saved : Option CreatedFile
  pub cause : IsAnswer call.jobs call.words call.files (Report status text saved)
  pub kept : Created call saved
  pub told : Wrote call text
  pub calm : IsCalm call

-- the sink failed at the report, behind the file that is saved
pub record FailedAtReport (call : Call) : Type 0 where
  pub status : Status
  pub text : List ℕ
  pub saved : Option CreatedFile
  pub cause : IsAnswer call.jobs call.words call.files (Report status text saved)
  pub kept : Created call saved
  pub told : WrotePrefix call text
  pub calm : IsCalm call

-- the shelf failed at the file that is saved, and no report was written
pub record FailedAtFile (call : Call) : Type 0 where
  pub status : Status
  pub text : List ℕ
  pub file : CreatedFile
  pub cause : IsAnswer call.jobs call.words call.files (Report status text (Some file))
  pub kept : CreatedPrefix call file
  pub untold : WroteNothing call
  pub calm : IsCalm call

-- the shelf failed at an open or a read, or has no such file; no file was created
pub record FailedToRead (call : Call) : Type 0 where
  pub cause : Rose call.before.in_faults call.now.in_faults ⊎ (IsCalm call × IsAnswer call.jobs call.words call.files (Refusal Read))
  pub told : Wrote call (fault_text Read) ⊎ WrotePrefix call (fault_text Read)
  pub unsaved : Created call None

-- nothing was written, and no file was created
pub record RanOutOfMemory (call : Call) : Type 0 where
  pub untold : WroteNothing call
  pub calm : IsCalm call
  pub unsaved : Created call None

-- the call may end with this status
abbrev pub Ends : Call → Status → Type 0
Ends call Done = WasReported call Done
Ends call Failing = WasReported call Failing
Ends call Words = WasRefused call Words
Ends call Form = WasRefused call Form
Ends call WrongCount = WasReported call WrongCount
Ends call Asked = WasReported call Asked
Ends call SavedForm = WasRefused call SavedForm
Ends call StepLimit = WasReported call StepLimit
Ends call ReadFault = FailedToRead call
Ends call WriteFault = FailedAtReport call ⊎ FailedAtFile call
Ends call OutOfMemory = RanOutOfMemory call
Ends call Draw = WasReported call Draw ⊎ WasRefused call Draw
Ends call TooLong = WasRefused call TooLong

-- the status of an answer
abbrev pub answer_status : Answer → Status
answer_status (Report status text saved) = status
answer_status (Refusal fault) = status_of fault

-- the status is that of the answer to the words
pub record IsAnswered (jobs : List Job) (words : List (List ℕ)) (files : Files) (status : Status) : Type 0 where
  pub answer : Answer
  pub cause : IsAnswer jobs words files answer
  pub is : status ≡ answer_status answer
