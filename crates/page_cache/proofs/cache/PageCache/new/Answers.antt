use Rattle.std.proofs.Common.{rules, ◌≡◌, length, replicate, Option, None, ap, ◌∙◌}
use Rattle.std.proofs.lemmas.List.{length-replicate}
use Rattle.std.proofs.lemmas.List.FromFn.{length-map-range_with_len}
use Rattle.page_cache.specs.declared.held.Held.{Held}
use Rattle.page_cache.specs.Cache.{new_page}
use Rattle.page_cache.proofs.NewCache.{sound-new}
use Rattle.page_cache.proofs.cache.PageCache.new.Goals as goal

pub invariant_of-result : goal.invariant_of-result
invariant_of-result c =
    let none : c.in_ok-none.none.items ≡ replicate {A = Option Held} c.args.frames None = search rules in
    sound-new c.args.frames c.args.pages _ _ _ c.requires.frames c.requires.pages c.in_ok-links.ensures.lists c.in_ok-links.ensures.nodes
    c.in_ok-links.ensures.each_once none c.in_ok-disk.ensures

pub returns-clause-size : goal.returns-clause-size
returns-clause-size c =
    let none : c.in_ok-none.none.items ≡ replicate {A = Option Held} c.args.frames None = search rules in
    record {
      frame_count = ap length none ∙ length-replicate {A = Option Held} c.args.frames None;
      page_count = ap length c.in_ok-disk.ensures ∙ length-map-range_with_len new_page 0 c.args.pages;
    }
