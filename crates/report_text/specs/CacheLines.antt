-- The lines of a page cache and its disk.
use Rattle.std.specs.Prelude.{ℕ, List, [], ◌∷◌, ◌++◌, Option, None, Some, codes}
use Rattle.std.specs.List.{flat_map}
use Rattle.std.specs.Fmt.{decimal}
use Rattle.page_cache.specs.declared.content.Content.{Content}
use Rattle.page_cache.specs.declared.held.Held.{Held}
use Rattle.page_cache.specs.Cache.{CacheState, held_in}
use Rattle.surw_base.specs.Lines.{line}

-- the value and the stamp of a page
abbrev pub content_text : Content → List ℕ
content_text content = decimal content.value ++ codes "/" ++ decimal content.stamp

-- a frame with what it holds. A frame that is clean or dirty always holds a page; of one that doesn't nothing is said
abbrev pub frame_item : ℕ → Option Held → List ℕ
frame_item frame None = []
frame_item frame (Some held) = 32 ∷ decimal frame ++ codes ":" ++ decimal held.page ++ codes "/" ++ content_text held.content

-- a word and then frames of the cache, in the order of the list
unfoldable pub frames_line : List ℕ → CacheState → List ℕ → List ℕ
frames_line word cache frames = line (word ++ flat_map (λ frame. frame_item frame (held_in cache frame)) frames)

-- what the disk has of each page
unfoldable pub pages_line : List Content → List ℕ
pages_line disk = line (codes "pages" ++ flat_map (λ content. 32 ∷ content_text content) disk)
