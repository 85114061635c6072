-- The replies that a thread is told, and what it announces after them.
use Rattle.std.specs.Prelude.{ℕ, ◌==◌, List, map, Option, None, Some, slice_get}
use Rattle.std.specs.List.{filter}
use Rattle.event_class.specs.declared.event.Event.{Event}
use Rattle.routine_kit.specs.declared.routine.Routine.{Ghosts}
use Rattle.routine_kit.specs.Run.{after_replies}
use Rattle.run_rules.specs.declared.entry.Entry.{Entry}
use Rattle.run_rules.specs.Setup.{Script}

-- the replies told to a thread: those of its entries
unfoldable pub replies_told : List Entry → ℕ → List ℕ
replies_told journal thread = map (λ entry. entry.reply) (filter (λ entry. entry.thread == thread) journal)

-- what a thread announces after the journal, or nothing
abbrev pub announcement : Script → List Entry → ℕ → Option Event
announcement script journal thread = script.says thread (replies_told journal thread)

-- what the routine of that number announces after some replies, and nothing where there is none
abbrev pub routine_says : {R : Type 0} → Ghosts R → Option R → List ℕ → Option Event
routine_says behaviour None replies = None
routine_says behaviour (Some routine) replies = behaviour.announced (after_replies behaviour.after_reply routine replies)

abbrev pub routines_say : {R : Type 0} → Ghosts R → List R → ℕ → List ℕ → Option Event
routines_say behaviour routines thread replies = routine_says behaviour (slice_get routines thread) replies
