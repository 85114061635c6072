-- The number of each status, and the status of a refusal.
use Rattle.std.specs.Prelude.{ℕ}
use Rattle.fault_text.specs.declared.fault.Fault.{Fault}
use Rattle.fault_text.specs.declared.fault.Fault.TheVariants as fault
use Rattle.surw_cli.specs.declared.status.Status.{Status}
use Rattle.surw_cli.specs.declared.status.Status.TheVariants.{Done, Failing, Words, Form, WrongCount, Asked, SavedForm, StepLimit, ReadFault, WriteFault, OutOfMemory, Draw, TooLong}

abbrev pub code : Status → ℕ
code Done = 0
code Failing = 1
code Words = 2
code Form = 3
code WrongCount = 4
code Asked = 5
code SavedForm = 6
code StepLimit = 7
code ReadFault = 8
code WriteFault = 9
code OutOfMemory = 10
code Draw = 11
code TooLong = 12

-- the status that a refusal ends with
abbrev pub status_of : Fault → Status
status_of fault.Words = Words
status_of (fault.Lines number) = Form
status_of fault.Read = ReadFault
status_of (fault.Length kept needed) = Draw
status_of (fault.Large place kept below) = Draw
status_of (fault.Miscount thread counted seen) = Draw
status_of (fault.Offsets thread counted seen) = Draw
status_of (fault.Offset thread place kept below) = Draw
status_of (fault.TooLong limit) = TooLong
status_of (fault.Scenario cause) = Form
status_of fault.ProfileStepLimit = Form
status_of (fault.ProfileDeadlock step) = Form
status_of (fault.Replay cause) = SavedForm
status_of (fault.OtherScenario kept needed) = SavedForm
