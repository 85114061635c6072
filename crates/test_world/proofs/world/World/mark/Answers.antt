use Rattle.std.proofs.Common.{ap, sym, ◌∙◌}
use Rattle.std.specs.List.{list_any}
use Rattle.wal_log.specs.Log.{LogState}
use Rattle.test_world.specs.Monitor.{is_above}
use Rattle.test_world.proofs.MarkRises.{mark-up}
use Rattle.test_world.proofs.PagesAhead.{raised-below}
use Rattle.test_world.proofs.world.World.mark.Goals as goal

pub invariant_of-self-else-self : goal.invariant_of-self-else-self
invariant_of-self-else-self c = let kept = c.self.invariant in record {
  size = record {
    limits = kept.size.limits;
    cells = kept.size.cells;
    locks = kept.size.locks;
    frames = kept.size.frames;
    pages = kept.size.pages;
    slots = c.mark-reply.ensures.same_size ∙ kept.size.slots;
  };
  ahead = c.if-self.false ∙ sym (ap (λ (log : LogState). list_any (is_above log.mark) c.self.inside.cache.disk) c.mark-reply.ensures.after
      ∙ raised-below c.self.inside.log.mark _ c.self.inside.cache.disk (mark-up c.self.inside.log c.args.n) (sym kept.ahead
      ∙ c.if-self.false));
}
