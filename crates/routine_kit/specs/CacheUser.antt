-- What a cache user announces.
use Rattle.std.specs.Prelude.{ℕ, ◌==◌, if◌then◌else◌, Option, None, Some}
use Rattle.event_class.specs.declared.event.Event.{Event}
use Rattle.surw_base.specs.Number.{greatest}
use Rattle.routine_kit.specs.declared.cache_user.CacheUser.{CacheUser}
use Rattle.routine_kit.specs.declared.cache_user.Phase.{Phase}
use Rattle.routine_kit.specs.declared.cache_user.Phase.TheVariants.{Acquire, Find, Claim, Fill, Read, Check, Release, Ended}

-- the phase at the beginning: the lock is acquired first, where there is one
abbrev pub first_phase : Option ℕ → Phase
first_phase None = Find
first_phase (Some lock) = Acquire lock

-- the last phase: the lock is released, where there is one
abbrev pub last_phase : Option ℕ → Phase
last_phase None = Ended
last_phase (Some lock) = Release lock

-- a cache user at its beginning
abbrev pub new_cache_user : ℕ → ℕ → Option ℕ → CacheUser
new_cache_user page expect lock = record { page = page; expect = expect; lock = lock; phase = first_phase lock }

-- the event of a phase, for a page and what is expected there
abbrev pub cache_user_event : ℕ → ℕ → Phase → Option Event
cache_user_event page expect (Acquire lock) = Some (Event.Acquire lock)
cache_user_event page expect Find = Some (Event.Find page)
cache_user_event page expect Claim = Some (Event.Claim page)
cache_user_event page expect (Fill frame) = Some (Event.Fill frame page)
cache_user_event page expect (Read frame) = Some (Event.Read frame)
cache_user_event page expect (Check value) = Some (Event.Check value expect)
cache_user_event page expect (Release lock) = Some (Event.Release lock)
cache_user_event page expect Ended = None

-- its next event, and none once it has ended
abbrev pub cache_user_announced : CacheUser → Option Event
cache_user_announced user = cache_user_event user.page user.expect user.phase

-- the phase after a reply: the greatest number says that no frame was found, or that none can be claimed
abbrev pub cache_user_phase : Option ℕ → Phase → ℕ → Phase
cache_user_phase lock (Acquire held) reply = Find
cache_user_phase lock Find reply = if reply == greatest then Claim else Read reply
cache_user_phase lock Claim reply = if reply == greatest then last_phase lock else Fill reply
cache_user_phase lock (Fill frame) reply = Read frame
cache_user_phase lock (Read frame) reply = Check reply
cache_user_phase lock (Check value) reply = last_phase lock
cache_user_phase lock (Release held) reply = Ended
cache_user_phase lock Ended reply = Ended

-- the cache user after a reply
abbrev pub cache_user_after : CacheUser → ℕ → CacheUser
cache_user_after user reply = record user { phase = cache_user_phase user.lock user.phase reply }
