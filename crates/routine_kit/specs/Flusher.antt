-- What a flusher announces.
use Rattle.std.specs.Prelude.{ℕ, ◌-◌, ◌==◌, if◌then◌else◌, Bool, Option, None, Some}
use Rattle.event_class.specs.declared.event.Event.{Event}
use Rattle.routine_kit.specs.declared.flusher.Flusher.{Flusher}
use Rattle.routine_kit.specs.declared.flusher.Phase.{Phase}
use Rattle.routine_kit.specs.declared.flusher.Phase.TheVariants.{Oldest, Stamp, Mark, Flush}

-- a flusher at the beginning of its rounds
abbrev pub new_flusher : ℕ → Bool → Flusher
new_flusher rounds mark_first = record { rounds = rounds; mark_first = mark_first; phase = Oldest }

-- the event of a phase
abbrev pub flusher_event : Phase → Event
flusher_event Oldest = Event.Oldest
flusher_event (Stamp frame) = Event.Stamp frame
flusher_event (Mark frame stamp) = Event.Mark stamp
flusher_event (Flush frame) = Event.Flush frame

-- its next event, and none once no rounds are left
abbrev pub flusher_announced : Flusher → Option Event
flusher_announced flusher = if flusher.rounds == 0 then None else Some (flusher_event flusher.phase)

-- the phase after a reply: whatever frame and stamp are replied, they are passed on
abbrev pub flusher_phase : Bool → Phase → ℕ → Phase
flusher_phase mark_first Oldest reply = Stamp reply
flusher_phase mark_first (Stamp frame) reply = if mark_first then Mark frame reply else Flush frame
flusher_phase mark_first (Mark frame stamp) reply = Flush frame
flusher_phase mark_first (Flush frame) reply = Oldest

-- the rounds left after a reply: a flush ends one
abbrev pub rounds_after : ℕ → Phase → ℕ
rounds_after rounds (Flush frame) = rounds - 1
rounds_after rounds _ = rounds

-- the flusher after a reply
abbrev pub flusher_after : Flusher → ℕ → Flusher
flusher_after flusher reply = record flusher {
  rounds = rounds_after flusher.rounds flusher.phase;
  phase = flusher_phase flusher.mark_first flusher.phase reply;
}
