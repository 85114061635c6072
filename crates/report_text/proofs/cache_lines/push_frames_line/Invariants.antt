use Rattle.std.proofs.Common.{◌≡◌, ◌++◌, take}
use Rattle.std.specs.List.{flat_map}
use Rattle.page_cache.specs.Cache.{held_in}
use Rattle.report_text.specs.CacheLines.{frame_item}
use Rattle.report_text.proofs.cache_lines.push_frames_line.Given as goal

abbrev pub invariant-loop-i : goal.invariant-loop-i
invariant-loop-i l =
    l.text.items ≡ l.initial.text.items ++ flat_map (λ frame. frame_item frame (held_in l.cache frame)) (take l.i l.frames)
