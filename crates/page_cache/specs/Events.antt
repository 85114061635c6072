-- The events of a page cache: what each replies, and the cache after it. The first case that fits holds.
use Rattle.std.specs.Prelude.{ℕ, ◌||◌, slice_get, unwrap_or, Option, None, Some, if◌then◌else◌}
use Rattle.surw_base.specs.Number.{greatest}
use Rattle.page_cache.specs.Cache.{CacheState, is_past, holds, frame_of, held_in, clean_in, dirty_in, on_disk, last_of_clean, last_of_dirty, holding, written, claimed, stored}

-- what an event replies, and the cache after it
pub record Answer : Type 0 where
  pub reply : ℕ
  pub after : CacheState

-- a reply to which the cache stays as it is
abbrev pub stays : CacheState → ℕ → Answer
stays cache reply = record { reply = reply; after = cache }

-- a reply, and the cache after it
abbrev pub answer : ℕ → CacheState → Answer
answer reply after = record { reply = reply; after = after }

-- the answer where there is such a thing, and else another
abbrev pub where_some : {A : Type 0} → Option A → (A → Answer) → Answer → Answer
where_some None there other = other
where_some (Some found) there other = there found

-- which frame holds the page
abbrev pub find : CacheState → ℕ → Answer
find cache page = stays cache (unwrap_or (frame_of cache page) greatest)

-- a frame for the page: the one that holds it, else the first free one, else the first clean one
abbrev pub claim : CacheState → ℕ → Answer
claim cache page =
    if is_past cache.disk page then stays cache greatest else (
    where_some (frame_of cache page) (λ frame. stays cache frame) (
    where_some (slice_get cache.free 0) (λ frame. answer frame (claimed cache frame page)) (
    where_some (slice_get cache.clean 0) (λ frame. answer frame (claimed cache frame page)) (
    stays cache greatest))))

-- a clean frame that holds the page has what the disk has of it
abbrev pub fill : CacheState → ℕ → ℕ → Answer
fill cache frame page =
    if is_past cache.frames frame || is_past cache.disk page then stays cache greatest else (
    if holds page (clean_in cache frame) then answer 0 (holding cache frame page (on_disk cache page)) else
    stays cache 1)

-- the frame's value; a clean frame is then the one used last
abbrev pub read : CacheState → ℕ → Answer
read cache frame =
    if is_past cache.frames frame then stays cache greatest else (
    where_some (clean_in cache frame) (λ held. answer held.content.value (last_of_clean cache frame)) (
    where_some (dirty_in cache frame) (λ held. stays cache held.content.value) (
    stays cache greatest)))

-- the frame has this value and stamp; a clean frame is then the one written last
abbrev pub write : CacheState → ℕ → ℕ → ℕ → Answer
write cache frame value stamp =
    if is_past cache.frames frame then stays cache greatest else (
    where_some (clean_in cache frame) (λ held. answer 0 (last_of_dirty (written cache frame held.page value stamp) frame)) (
    where_some (dirty_in cache frame) (λ held. answer 0 (written cache frame held.page value stamp)) (
    stays cache 1)))

-- which dirty frame was written first
abbrev pub oldest : CacheState → Answer
oldest cache = stays cache (unwrap_or (slice_get cache.dirty 0) greatest)

-- the frame's stamp
abbrev pub stamp : CacheState → ℕ → Answer
stamp cache frame = where_some (held_in cache frame) (λ held. stays cache held.content.stamp) (stays cache greatest)

-- the disk has what the dirty frame holds; the frame is then clean, the one used last
abbrev pub flush : CacheState → ℕ → Answer
flush cache frame =
    if is_past cache.frames frame then stays cache greatest else (
    where_some (dirty_in cache frame) (λ held. answer 0 (last_of_clean (stored cache held) frame)) (
    stays cache 1))
