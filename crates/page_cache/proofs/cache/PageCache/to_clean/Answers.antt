use Rattle.std.proofs.Common.{◌<◌, length, ap, ◌∙◌, arith}
use Rattle.page_cache.specs.Cache.{has}
use Rattle.page_cache.proofs.MovedFrames.{sound-moved, holds-same}
use Rattle.page_cache.proofs.cache.PageCache.to_clean.Goals as goal

pub invariant_of-self : goal.invariant_of-self
invariant_of-self c =
    let lt : c.args.frame < length c.self.inside.frames.items = omega (arith, c.requires.frame, ap (λ s. length s.frames) c.self.view_is) in
    sound-moved _ _ _ _ _ 1 c.args.frame c.self.invariant c.to_back.ensures.after c.to_back.ensures.same_nodes (λ e. omega (arith, e))
    (holds-same _ _ _ c.args.frame c.self.invariant lt (ap (λ s. has c.args.frame s.free) c.self.view_is ∙ c.requires.held))
