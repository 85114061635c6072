use Rattle.std.proofs.Common.{◌<◌, length, Some, ap, sym, subst, ◌∙◌, arith}
use Rattle.std.specs.Prelude.{slice_set}
use Rattle.page_cache.specs.declared.held.Held.{Held}
use Rattle.page_cache.specs.Cache.{frame_of}
use Rattle.page_cache.proofs.PagesApart.{apart-claimed}
use Rattle.page_cache.proofs.MovedFrames.{HoldsAt, sound-moved, holds-new}
use Rattle.page_cache.proofs.cache.PageCache.take.Goals as goal

pub invariant_of-self : goal.invariant_of-self
invariant_of-self c =
    let frame = c.args.frame in
    let frames = c.self.inside.frames.items in
    let disk = c.self.inside.disk.items in
    let held : Held = record { page = c.args.page; content = c.args.content } in
    let lt : frame < length frames = omega (arith, c.requires.frame, ap (λ s. length s.frames) c.self.view_is) in
    let page : c.args.page < length disk = omega (arith, c.requires.page, ap (λ s. length s.disk) c.self.view_is) in
    let apart = apart-claimed frames frame held lt c.self.invariant.apart (ap (λ s. frame_of s c.args.page) c.self.view_is ∙ c.requires.apart) in
    sound-moved _ _ _ _ _ 1 frame c.self.invariant c.to_back.ensures.after c.to_back.ensures.same_nodes (λ e. omega (arith, e))
    (subst (λ n. HoldsAt frames (slice_set frames n (Some held)) disk frame) (sym c.from.ensures) (holds-new frames disk frame held lt page apart))
