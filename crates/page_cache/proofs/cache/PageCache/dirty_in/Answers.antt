use Rattle.std.proofs.Common.{◌≡◌, ◌==◌, Bool, false, Option, None, cond, length, slice_index_or, ap, sym, ◌∙◌, arith}
use Rattle.std.proofs.lemmas.Bool.{ne_eqb}
use Rattle.frame_links.specs.Lists.{list_at}
use Rattle.frame_links.proofs.Changes.{list_of-has}
use Rattle.page_cache.specs.declared.held.Held.{Held}
use Rattle.page_cache.specs.Cache.{has, dirty_in}
use Rattle.page_cache.proofs.cache.PageCache.dirty_in.Goals as goal

pub returns-else-list_of-eq-DIRTY-clause-dirty : goal.returns-else-list_of-eq-DIRTY-clause-dirty
returns-else-list_of-eq-DIRTY-clause-dirty c =
    let frame = c.args.frame in
    let lists = c.self.inside.links in
    let once = c.self.invariant.each_once.once frame (omega (
      arith,
      c.requires,
      c.self.invariant.nodes,
      ap
          (λ s. length s.frames) c.self.view_is,
    )) in
    let not_there : has frame (list_at lists 2) ≡ false =
    sym (list_of-has lists 2 frame once (omega (arith, c.self.invariant.three))) ∙ ap (λ n. n == 2) (sym c.list_of.ensures.list)
    ∙ ne_eqb c.list_of.result 2 c.if-list_of-eq-DIRTY.false in
    sym (ap (λ (b : Bool). cond b (slice_index_or {A = Option Held} c.self.inside.frames.items frame None) None) not_there)
    ∙ ap (λ s. dirty_in s frame) c.self.view_is
