use Rattle.std.proofs.Common.{◌≡◌, drop}
use Rattle.std.specs.List.{position_from}
use Rattle.page_cache.specs.Cache.{holds, frame_of}
use Rattle.page_cache.proofs.cache.PageCache.frame_of.Given as goal

abbrev pub invariant-loop-frame : goal.invariant-loop-frame
invariant-loop-frame l = position_from (holds l.page) l.frame (drop l.frame l.self.frames) ≡ frame_of l.self l.page
