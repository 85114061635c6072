-- What is true of every cache.
use Rattle.std.specs.Prelude.{◌≡◌, ◌<◌, ◌≤◌, ℕ, true, List, Option, None, Some, length, is_none, slice_index_or}
use Rattle.surw_base.specs.declared.limits.TheConstants.{FRAMES, PAGES}
use Rattle.frame_links.specs.Lists.{node_count, list_at, HasEachOnce}
use Rattle.page_cache.specs.declared.held.Held.{Held}
use Rattle.page_cache.specs.declared.content.Content.{Content}
use Rattle.page_cache.specs.Cache.{CacheState, holds, has}

-- the cache of these lists
abbrev pub cache_of : List (List ℕ) → List (Option Held) → List Content → CacheState
cache_of lists frames disk = record { free = list_at lists 0; clean = list_at lists 1; dirty = list_at lists 2; frames = frames; disk = disk }

-- no two frames hold one page
pub record ArePagesApart (frames : List (Option Held)) : Type 0 where
  pub apart : (page one other : ℕ) → holds page (slice_index_or frames one None) ≡ true
      → holds page (slice_index_or frames other None) ≡ true → one ≡ other

-- each frame is in one of three lists, once; those of the first list, and only those, hold nothing; a page that is held is on the disk,
-- and no other frame holds it
pub record IsSound (lists : List (List ℕ)) (frames : List (Option Held)) (disk : List Content) : Type 0 where
  pub three : length lists ≡ 3
  pub nodes : node_count lists ≡ length frames
  pub each_once : HasEachOnce lists
  pub few : length frames ≤ FRAMES
  pub pages : length disk ≤ PAGES
  pub free : (frame : ℕ) → frame < length frames → is_none (slice_index_or frames frame None) ≡ has frame (list_at lists 0)
  pub on_disk : (frame : ℕ) (held : Held) → slice_index_or frames frame None ≡ Some held → held.page < length disk
  pub apart : ArePagesApart frames
