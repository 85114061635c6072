-- How a job stops, and how a job that stopped ends.
use Rattle.std.proofs.Common.{Result, Ok, Err, OnOk, OnErr, inl, inr, ⊎_elim, ◌⊎◌, ◌≡◌, ◌≤◌, ℕ, List, Option, None, ap, arith, refl}
use Rattle.std.proofs.lemmas.Bool.{cases_lt}
use Rattle.fault_text.specs.FaultText.{fault_text}
use Rattle.fault_text.specs.declared.fault.Fault.{Fault}
use Rattle.fault_text.specs.declared.fault.Fault.TheVariants.{Words, Lines, Read, Length, Large, Miscount, Offsets, Offset, TooLong, Scenario, ProfileStepLimit, ProfileDeadlock, Replay, OtherScenario}
use Rattle.order_text.specs.DrawsFile.{IsOtherDraws}
use Rattle.order_text.specs.FileFault.{IsOtherFile}
use Rattle.order_text.specs.OrderFile.{IsOtherOrder}
use Rattle.order_text.specs.declared.file_fault.FileFault.{FileFault}
use Rattle.order_text.specs.declared.file_fault.FileFault.TheVariants as file
use Rattle.surw_io.specs.Cause.{HasCause}
use Rattle.surw_io.specs.Content.{Entry, HoldsPrefix, with_end}
use Rattle.surw_io.specs.Fetch.{IsRefused}
use Rattle.surw_io.specs.declared.whole_file.FetchFault.{FetchFault}
use Rattle.surw_io.specs.declared.whole_file.FetchFault.TheVariants as fetch
use Rattle.surw_cli.specs.Answer.{Answer, Refusal}
use Rattle.surw_cli.specs.CommandAnswer.{IsAnswer}
use Rattle.surw_cli.specs.DrawsAnswer.{draws_answer}
use Rattle.surw_cli.specs.Ending.{Call, Created, Ends, IsCalm, WasRefused, Wrote, WrotePrefix}
use Rattle.surw_cli.specs.FileAnswer.{IsFileAnswer, Absent, Long}
use Rattle.surw_cli.specs.OrderAnswer.{order_answer}
use Rattle.surw_cli.specs.Status.{status_of}
use Rattle.surw_cli.specs.Stop.{IsStopAt, IsStopOf, IsUnfetched, stop_of_fetch, stop_of_file}
use Rattle.surw_cli.specs.declared.stop.Stop.{Stop}
use Rattle.surw_cli.specs.declared.stop.Stop.TheVariants.{Refused, OutOfMemory}

-- a file of another form is how a job over it stops
pub order-stop : (bytes : List ℕ) (fault : FileFault) → IsOtherFile (IsOtherOrder bytes) fault → IsStopOf (order_answer bytes) (stop_of_file fault)
order-stop bytes (file.Lines number) other = other
order-stop bytes file.OutOfMemory other = tt

pub draws-stop : (bytes : List ℕ) (fault : FileFault) → IsOtherFile (IsOtherDraws bytes) fault → IsStopOf (draws_answer bytes) (stop_of_file fault)
draws-stop bytes (file.Lines number) other = other
draws-stop bytes file.OutOfMemory other = tt

-- what is said of one kind of answers may be said of another
pub stop-map : (P Q : Answer → Type 0) (before now : ℕ) (stop : Stop) → ((answer : Answer) → P answer → Q answer) → IsStopAt P before now stop
    → IsStopAt Q before now stop
stop-map P Q before now (Refused Read) more (inl rose) = inl rose
stop-map P Q before now (Refused Read) more (inr none) = inr (none.0, more (Refusal Read) none.1)
stop-map P Q before now (Refused fault) more stop = (stop.0, more (Refusal fault) stop.1)
stop-map P Q before now OutOfMemory more stop = stop

-- a job stopped where no count rose
pub calm-stop : (P : Answer → Type 0) (before now : ℕ) (stop : Stop) → now ≡ before → IsStopOf P stop → IsStopAt P before now stop
calm-stop P before now (Refused Read) calm stop = inr (calm, stop)
calm-stop P before now (Refused fault) calm stop = (calm, stop)
calm-stop P before now OutOfMemory calm stop = calm

-- a file that wasn't fetched
pub unfetched : (limit : ℕ) (coming : Option Entry) (before now : ℕ) (fault : FetchFault) → before ≤ now → IsRefused coming limit before now fault
    → IsUnfetched limit coming before now (stop_of_fetch limit fault)
unfetched limit coming before now fetch.Failed rises (inl rose) = inl rose
unfetched limit coming before now fetch.Failed rises (inr missing) = elim (cases_lt before now) [
  | inl more ↦ inl (omega (arith, more))
  | inr no_more ↦ inr (omega (arith, no_more, rises), missing)
]
unfetched limit coming before now (fetch.TooLong taken) rises refused = (refused.2, refl, refused.1)
unfetched limit coming before now fetch.OutOfMemory rises refused = refused

-- is how a job over it stops
pub unfetched-stop : (limit : ℕ) (IsMade : List ℕ → Answer → Type 0) (coming : Option Entry) (before now : ℕ) (stop : Stop) → IsUnfetched limit coming before now stop
    → IsStopAt (IsFileAnswer limit IsMade coming) before now stop
unfetched-stop limit IsMade coming before now (Refused Read) (inl rose) = inl rose
unfetched-stop limit IsMade coming before now (Refused Read) (inr none) = inr (none.0, Absent none.1 refl)
unfetched-stop limit IsMade coming before now (Refused (TooLong most)) none = (none.0, Long none.2 (ap (λ (l : ℕ). Refusal (TooLong l)) none.1))
unfetched-stop limit IsMade coming before now (Refused fault) none = absurd none
unfetched-stop limit IsMade coming before now OutOfMemory none = none

was-refused : (call : Call) (fault : Fault) → IsCalm call × IsAnswer call.jobs call.words call.files (Refusal fault)
    → Wrote call (fault_text fault) ⊎ WrotePrefix call (fault_text fault) → Created call None → WasRefused call (status_of fault)
was-refused call fault stop told unsaved = record { fault = fault; is = refl; cause = stop.1; told = told; calm = stop.0; unsaved = unsaved }

-- a job that stopped at a fault, whose line was written or begun, ends with the fault's status
pub refusal-ends : (call : Call) (fault : Fault) → IsStopAt (IsAnswer call.jobs call.words call.files) call.before.in_faults call.now.in_faults (Refused fault)
    → Wrote call (fault_text fault) ⊎ WrotePrefix call (fault_text fault) → Created call None → Ends call (status_of fault)
refusal-ends call Words stop told unsaved = was-refused call Words stop told unsaved
refusal-ends call (Lines number) stop told unsaved = was-refused call (Lines number) stop told unsaved
refusal-ends call Read stop told unsaved = record { cause = stop; told = told; unsaved = unsaved }
refusal-ends call (Length kept needed) stop told unsaved = inr (was-refused call (Length kept needed) stop told unsaved)
refusal-ends call (Large place kept below) stop told unsaved = inr (was-refused call (Large place kept below) stop told unsaved)
refusal-ends call (Miscount thread counted seen) stop told unsaved = inr (was-refused call (Miscount thread counted seen) stop told unsaved)
refusal-ends call (Offsets thread counted seen) stop told unsaved = inr (was-refused call (Offsets thread counted seen) stop told unsaved)
refusal-ends call (Offset thread place kept below) stop told unsaved = inr (was-refused call (Offset thread place kept below) stop told unsaved)
refusal-ends call (TooLong limit) stop told unsaved = was-refused call (TooLong limit) stop told unsaved
refusal-ends call (Scenario cause) stop told unsaved = was-refused call (Scenario cause) stop told unsaved
refusal-ends call ProfileStepLimit stop told unsaved = was-refused call ProfileStepLimit stop told unsaved
refusal-ends call (ProfileDeadlock step) stop told unsaved = was-refused call (ProfileDeadlock step) stop told unsaved
refusal-ends call (Replay cause) stop told unsaved = was-refused call (Replay cause) stop told unsaved
refusal-ends call (OtherScenario kept needed) stop told unsaved = was-refused call (OtherScenario kept needed) stop told unsaved

-- what a writer of a text leaves: all of it, or a prefix where the sink failed
pub told : {A E : Type 0} (call : Call) (text : List ℕ) (result : Result A E) → OnOk result (call.now.taken ≡ with_end call.before.taken text)
    → OnErr result (HoldsPrefix call.before.taken text call.now.taken) → HasCause call.before.sink_faults call.now.sink_faults result ⊥ → Wrote call text ⊎ WrotePrefix call text
told call text (Ok x) all prefix cause = inl (record { added = all; calm = cause.calm })
told call text (Err e) all prefix cause = inr (record { added = prefix; rose = ⊎_elim (λ rose. rose) (λ none. absurd none) cause.rose })
