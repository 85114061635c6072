-- The world's step: which events are enabled, what each replies, and the world after it.
use Rattle.std.specs.Prelude.{ℕ, ◌+◌, ◌==◌, min, Bool, true, false, List, length, replicate, nat_le, slice_index, slice_index_or, slice_set, Option, None, Some, is_none, if◌then◌else◌}
use Rattle.surw_base.specs.Number.{greatest, wrapping_sum}
use Rattle.event_class.specs.declared.event.Event.{Event}
use Rattle.event_class.specs.declared.event.Event.TheVariants.{Acquire, Release, Load, Store, Add, SwapIf, Find, Claim, Fill, Read, Write, Oldest, Stamp, Flush, Reserve, Put, Mark, Durable, Check}
use Rattle.page_cache.specs.Cache.{CacheState, new_cache}
use Rattle.page_cache.specs.Events.{find, claim, fill, read, write, oldest, stamp, flush}
use Rattle.wal_log.specs.Log.{LogState, new_log}
use Rattle.wal_log.specs.Events.{reserve, put, mark, durable}
use Rattle.test_world.specs.declared.size.WorldSize.{WorldSize}

-- the size, the number of each cell, the thread that holds each lock, the page cache with its disk, the log device,
-- and how many checks have failed
pub record WorldState : Type 0 where
  pub size : WorldSize
  pub cells : List ℕ
  pub locks : List (Option ℕ)
  pub cache : CacheState
  pub log : LogState
  pub checks : ℕ

-- the world of these parts
abbrev pub world_of : WorldSize → List ℕ → List (Option ℕ) → CacheState → LogState → ℕ → WorldState
world_of size cells locks cache log checks =
    record { size = size; cells = cells; locks = locks; cache = cache; log = log; checks = checks }

-- a world as a test begins
abbrev pub new_world : WorldSize → WorldState
new_world size = record {
  size = size;
  cells = replicate size.cells 0;
  locks = replicate size.locks None;
  cache = new_cache size.frames size.pages;
  log = new_log size.slots;
  checks = 0;
}

-- whether a list has no such place
abbrev pub is_past : {A : Type 0} → List A → ℕ → Bool
is_past items n = nat_le (length items) n

-- the number at a place, and the greatest number past the end
abbrev pub value_or_greatest : List ℕ → ℕ → ℕ
value_or_greatest values n = slice_index_or values n greatest

-- 0 at a place, and the greatest number past the end
abbrev pub zero_or_greatest : {A : Type 0} → List A → ℕ → ℕ
zero_or_greatest items n = if is_past items n then greatest else 0

-- the second number in place of the first, and any other number as it is
abbrev pub swapped : ℕ → ℕ → ℕ → ℕ
swapped value a b = if value == a then b else value

-- the thread that holds a lock; nobody holds one past the end
abbrev pub holder_of : List (Option ℕ) → ℕ → Option ℕ
holder_of locks l = slice_index_or locks l None

-- whether nobody holds a lock
abbrev pub is_free : List (Option ℕ) → ℕ → Bool
is_free locks l = is_none (holder_of locks l)

-- whether this thread is the one, if there is one
abbrev pub is_thread : ℕ → Option ℕ → Bool
is_thread thread None = false
is_thread thread (Some other) = other == thread

-- whether the thread holds a lock
abbrev pub is_held_by : List (Option ℕ) → ℕ → ℕ → Bool
is_held_by locks thread l = is_thread thread (holder_of locks l)

-- the reply to a release: 0 to the holder and 1 to any other thread
abbrev pub release_reply : List (Option ℕ) → ℕ → ℕ → ℕ
release_reply locks thread l = if is_past locks l then greatest else (if is_held_by locks thread l then 0 else 1)

-- the locks after a release: the holder frees its lock
abbrev pub released : List (Option ℕ) → ℕ → ℕ → List (Option ℕ)
released locks thread l = if is_held_by locks thread l then slice_set locks l None else locks

-- the number of failed checks after a check of two numbers
abbrev pub checks_after : ℕ → ℕ → ℕ → ℕ
checks_after checks a b = if a == b then checks else min (checks + 1) greatest

-- whether a thread can make an event: not the acquire of a lock that is held, by whichever thread
abbrev pub is_enabled : WorldState → Event → Bool
is_enabled w (Acquire l) = is_free w.locks l
is_enabled w _ = true

-- the reply to an event of a thread: the greatest number where there is no such thing. A swap replies the number
-- before, as a load does. The page cache and the log device reply for themselves
abbrev pub reply : WorldState → ℕ → Event → ℕ
reply w t (Acquire l) = zero_or_greatest w.locks l
reply w t (Release l) = release_reply w.locks t l
reply w t (Load c) = value_or_greatest w.cells c
reply w t (Store c v) = zero_or_greatest w.cells c
reply w t (Add c v) = value_or_greatest w.cells c
reply w t (SwapIf c a b) = value_or_greatest w.cells c
reply w t (Find p) = (find w.cache p).reply
reply w t (Claim p) = (claim w.cache p).reply
reply w t (Fill f p) = (fill w.cache f p).reply
reply w t (Read f) = (read w.cache f).reply
reply w t (Write f v n) = (write w.cache f v n).reply
reply w t Oldest = (oldest w.cache).reply
reply w t (Stamp f) = (stamp w.cache f).reply
reply w t (Flush f) = (flush w.cache f).reply
reply w t Reserve = (reserve w.log).reply
reply w t (Put s v) = (put w.log s v).reply
reply w t (Mark n) = (mark w.log n).reply
reply w t Durable = (durable w.log).reply
reply w t (Check a b) = if a == b then 0 else 1

-- the world after an event of a thread. Where there is no such lock or cell, nothing is set
abbrev pub after : WorldState → ℕ → Event → WorldState
after w t (Acquire l) = record w { locks = slice_set w.locks l (Some t) }
after w t (Release l) = record w { locks = released w.locks t l }
after w t (Load c) = w
after w t (Store c v) = record w { cells = slice_set w.cells c v }
after w t (Add c v) = record w { cells = slice_set w.cells c (wrapping_sum (slice_index w.cells c) v) }
after w t (SwapIf c a b) = record w { cells = slice_set w.cells c (swapped (slice_index w.cells c) a b) }
after w t (Find p) = record w { cache = (find w.cache p).after }
after w t (Claim p) = record w { cache = (claim w.cache p).after }
after w t (Fill f p) = record w { cache = (fill w.cache f p).after }
after w t (Read f) = record w { cache = (read w.cache f).after }
after w t (Write f v n) = record w { cache = (write w.cache f v n).after }
after w t Oldest = record w { cache = (oldest w.cache).after }
after w t (Stamp f) = record w { cache = (stamp w.cache f).after }
after w t (Flush f) = record w { cache = (flush w.cache f).after }
after w t Reserve = record w { log = (reserve w.log).after }
after w t (Put s v) = record w { log = (put w.log s v).after }
after w t (Mark n) = record w { log = (mark w.log n).after }
after w t Durable = record w { log = (durable w.log).after }
after w t (Check a b) = record w { checks = checks_after w.checks a b }
