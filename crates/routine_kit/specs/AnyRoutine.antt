-- What a routine of any kind announces.
use Rattle.std.specs.Prelude.{ℕ, Option}
use Rattle.event_class.specs.declared.event.Event.{Event}
use Rattle.routine_kit.specs.declared.any_routine.AnyRoutine.{AnyRoutine}
use Rattle.routine_kit.specs.declared.any_routine.AnyRoutine.TheVariants.{Steps, Adder, CacheUser, Flusher, LogWriter}
use Rattle.routine_kit.specs.Adder.{adder_announced, adder_after}
use Rattle.routine_kit.specs.CacheUser.{cache_user_announced, cache_user_after}
use Rattle.routine_kit.specs.Flusher.{flusher_announced, flusher_after}
use Rattle.routine_kit.specs.LogWriter.{log_writer_announced, log_writer_after}
use Rattle.routine_kit.specs.Steps.{steps_announced, steps_after}

-- what its kind announces
abbrev pub any_announced : AnyRoutine → Option Event
any_announced (Steps steps) = steps_announced steps
any_announced (Adder adder) = adder_announced adder
any_announced (CacheUser user) = cache_user_announced user
any_announced (Flusher flusher) = flusher_announced flusher
any_announced (LogWriter writer) = log_writer_announced writer

-- what its kind is after a reply
abbrev pub any_after : AnyRoutine → ℕ → AnyRoutine
any_after (Steps steps) reply = Steps (steps_after steps reply)
any_after (Adder adder) reply = Adder (adder_after adder reply)
any_after (CacheUser user) reply = CacheUser (cache_user_after user reply)
any_after (Flusher flusher) reply = Flusher (flusher_after flusher reply)
any_after (LogWriter writer) reply = LogWriter (log_writer_after writer reply)
