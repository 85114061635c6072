-- A world as a test begins is of its size, and no page is ahead of the log.
use Rattle.std.proofs.Common.{◌≡◌, ℕ, false, List, length, replicate, Option, None, ap, sym, ◌∙◌}
use Rattle.std.specs.List.{list_any}
use Rattle.std.proofs.lemmas.List.{length-replicate}
use Rattle.page_cache.specs.Cache.{CacheState, new_cache}
use Rattle.page_cache.specs.Cache as page_cache
use Rattle.wal_log.specs.Log.{LogState, new_log}
use Rattle.test_world.specs.declared.size.WorldSize.{WorldSize}
use Rattle.test_world.specs.Monitor.{is_above, IsKept}
use Rattle.test_world.specs.Size.{IsWithinLimits}
use Rattle.test_world.specs.World.{world_of}
use Rattle.test_world.proofs.PagesAhead.{new-below}

pub kept-new : (size : WorldSize) (cells : List ℕ) (locks : List (Option ℕ)) (cache : CacheState) (log : LogState) → IsWithinLimits size
    → cells ≡ replicate size.cells 0 → locks ≡ replicate size.locks None → cache ≡ new_cache size.frames size.pages
    → page_cache.IsOfSize cache size.frames size.pages → log ≡ new_log size.slots → IsKept false (world_of size cells locks cache log 0)
kept-new size cells locks cache log limits cells_are locks_are cache_is cache_size log_is = record {
  size = record {
    limits = limits;
    cells = ap length cells_are ∙ length-replicate size.cells 0;
    locks = ap length locks_are ∙ length-replicate {A = Option ℕ} size.locks None;
    frames = cache_size.frame_count;
    pages = cache_size.page_count;
    slots = ap (λ (l : LogState). l.slots) log_is;
  };
  ahead = sym ((λ i. list_any (is_above (log_is i).mark) (cache_is i).disk) ∙ new-below 0 size.pages);
}
