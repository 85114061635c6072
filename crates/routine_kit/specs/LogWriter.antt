-- What a log writer announces.
use Rattle.std.specs.Prelude.{ℕ, Option, None, Some}
use Rattle.event_class.specs.declared.event.Event.{Event}
use Rattle.routine_kit.specs.declared.log_writer.LogWriter.{LogWriter}
use Rattle.routine_kit.specs.declared.log_writer.Phase.{Phase}
use Rattle.routine_kit.specs.declared.log_writer.Phase.TheVariants.{Reserve, Put, Claim, Write, Ended}

-- a log writer at its beginning
abbrev pub new_log_writer : ℕ → ℕ → LogWriter
new_log_writer page value = record { page = page; value = value; phase = Reserve }

-- the event of a phase, for a page and a value: what is written has the slot for its stamp
abbrev pub log_writer_event : ℕ → ℕ → Phase → Option Event
log_writer_event page value Reserve = Some Event.Reserve
log_writer_event page value (Put slot) = Some (Event.Put slot value)
log_writer_event page value (Claim slot) = Some (Event.Claim page)
log_writer_event page value (Write slot frame) = Some (Event.Write frame value slot)
log_writer_event page value Ended = None

-- its next event, and none once it has ended
abbrev pub log_writer_announced : LogWriter → Option Event
log_writer_announced writer = log_writer_event writer.page writer.value writer.phase

-- the phase after a reply: whatever slot and frame are replied, they are passed on
abbrev pub log_writer_phase : Phase → ℕ → Phase
log_writer_phase Reserve reply = Put reply
log_writer_phase (Put slot) reply = Claim slot
log_writer_phase (Claim slot) reply = Write slot reply
log_writer_phase (Write slot frame) reply = Ended
log_writer_phase Ended reply = Ended

-- the log writer after a reply
abbrev pub log_writer_after : LogWriter → ℕ → LogWriter
log_writer_after writer reply = record writer { phase = log_writer_phase writer.phase reply }
