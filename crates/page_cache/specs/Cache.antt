-- A page cache as contracts see it, and the words in which its events are told.
use Rattle.std.specs.Prelude.{◌≡◌, ℕ, ◌==◌, Bool, false, not, List, [], ◌∷◌, ◌++◌, length, map, replicate, nat_le, slice_index_or, slice_set, Option, None, Some, if◌then◌else◌}
use Rattle.std.specs.List.{range_with_len, position_from}
use Rattle.frame_links.specs.Lists.{times, without}
use Rattle.page_cache.specs.declared.held.Held.{Held}
use Rattle.page_cache.specs.declared.content.Content.{Content}

-- three lists of frames (clean with the least recently used first, dirty with the first written first), what each frame holds (nothing
-- where it is free), and what the disk has of each page
pub record CacheState : Type 0 where
  pub free : List ℕ
  pub clean : List ℕ
  pub dirty : List ℕ
  pub frames : List (Option Held)
  pub disk : List Content

-- a page as the disk has it at first
abbrev pub new_page : ℕ → Content
new_page page = record { value = page; stamp = 0 }

-- a cache as a test begins: all frames are free and rising, and page p has value p and stamp 0
abbrev pub new_cache : ℕ → ℕ → CacheState
new_cache frames pages = record {
  free = range_with_len 0 frames;
  clean = [];
  dirty = [];
  frames = replicate frames None;
  disk = map new_page (range_with_len 0 pages);
}

-- its lists: free, clean and dirty
abbrev pub lists_of : CacheState → List (List ℕ)
lists_of cache = cache.free ∷ cache.clean ∷ cache.dirty ∷ []

-- whether a list has no such place
abbrev pub is_past : {A : Type 0} → List A → ℕ → Bool
is_past items n = nat_le (length items) n

-- whether a list has a frame
abbrev pub has : ℕ → List ℕ → Bool
has frame list = not (times frame list == 0)

-- whether this page is held
abbrev pub holds : ℕ → Option Held → Bool
holds page None = false
holds page (Some held) = held.page == page

-- the frame that holds a page
abbrev pub frame_of : CacheState → ℕ → Option ℕ
frame_of cache page = position_from (holds page) 0 cache.frames

-- what a frame holds
abbrev pub held_in : CacheState → ℕ → Option Held
held_in cache frame = slice_index_or cache.frames frame None

-- what a clean frame holds
abbrev pub clean_in : CacheState → ℕ → Option Held
clean_in cache frame = if has frame cache.clean then held_in cache frame else None

-- what a dirty frame holds
abbrev pub dirty_in : CacheState → ℕ → Option Held
dirty_in cache frame = if has frame cache.dirty then held_in cache frame else None

-- what the disk has of a page
abbrev pub on_disk : CacheState → ℕ → Content
on_disk cache page = slice_index_or cache.disk page (new_page page)

-- a frame leaves its list and is last of clean
abbrev pub last_of_clean : CacheState → ℕ → CacheState
last_of_clean cache frame =
    record cache { free = without frame cache.free; clean = without frame cache.clean ++ frame ∷ []; dirty = without frame cache.dirty }

-- a frame leaves its list and is last of dirty
abbrev pub last_of_dirty : CacheState → ℕ → CacheState
last_of_dirty cache frame =
    record cache { free = without frame cache.free; clean = without frame cache.clean; dirty = without frame cache.dirty ++ frame ∷ [] }

-- a frame holds a page with this content
abbrev pub holding : CacheState → ℕ → ℕ → Content → CacheState
holding cache frame page content = record cache { frames = slice_set cache.frames frame (Some (record { page = page; content = content })) }

-- a frame holds a page with this value and stamp
abbrev pub written : CacheState → ℕ → ℕ → ℕ → ℕ → CacheState
written cache frame page value stamp = holding cache frame page (record { value = value; stamp = stamp })

-- a frame holds a page with value 0 and stamp 0, last of clean
abbrev pub claimed : CacheState → ℕ → ℕ → CacheState
claimed cache frame page = last_of_clean (written cache frame page 0 0) frame

-- the disk has what is held of a page
abbrev pub stored : CacheState → Held → CacheState
stored cache held = record cache { disk = slice_set cache.disk held.page held.content }

-- so many frames and pages
pub record IsOfSize (cache : CacheState) (frames pages : ℕ) : Type 0 where
  pub frame_count : length cache.frames ≡ frames
  pub page_count : length cache.disk ≡ pages

-- as many frames and pages as before
abbrev pub HasSameSize : CacheState → CacheState → Type 0
HasSameSize old new = IsOfSize new (length old.frames) (length old.disk)
