use Rattle.std.proofs.Common.{◌≡◌, ◌∷◌, ◌++◌, take}
use Rattle.std.specs.List.{flat_map}
use Rattle.report_text.specs.CacheLines.{content_text}
use Rattle.report_text.proofs.cache_lines.push_pages_line.Given as goal

abbrev pub invariant-loop-page : goal.invariant-loop-page
invariant-loop-page l =
    l.text.items ≡ l.initial.text.items ++ flat_map (λ content. 32 ∷ content_text content) (take l.page l.world.cache.disk)
