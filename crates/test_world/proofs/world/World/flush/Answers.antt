use Rattle.std.proofs.Common.{◌≡◌, ap, sym, ◌∙◌, arith}
use Rattle.std.specs.List.{list_any}
use Rattle.std.proofs.lemmas.Bool.{lt-ltb}
use Rattle.page_cache.specs.Cache.{CacheState}
use Rattle.page_cache.specs.Events.{flush, stamp}
use Rattle.test_world.specs.Monitor.{is_above}
use Rattle.test_world.proofs.StampedPages.{HasStamped, stamped, stamped-above, stamped-below}
use Rattle.test_world.proofs.world.World.flush.Goals.{then-is_above, else-is_above+then-self, else-is_above+else-self}
use Rattle.test_world.proofs.world.World.flush.Goals as goal

pub invariant_of-self : goal.invariant_of-self
invariant_of-self c =
    let kept = c.self.invariant in
    let cache = c.self.inside.cache in
    let now = c.flush-reply.new.self in
    let f = c.args.f in
    let mark = c.self.inside.log.mark in
    let has : HasStamped cache.disk (flush cache f).after.disk (stamp (flush cache f).after f).reply = stamped cache f
    (λ held there. c.links-links.ensures.sound.on_disk f held there) (sym c.flush-reply.ensures.reply ∙ c.if-reply-eq0.true) in
    let stamp_is : c.stamp.result ≡ (stamp (flush cache f).after f).reply = c.stamp.ensures.reply
    ∙ ap (λ (s : CacheState). (stamp s f).reply) c.flush-reply.ensures.after in
    let disk_is : list_any (is_above mark) now.disk ≡ list_any (is_above mark) (flush cache f).after.disk =
    ap (λ (s : CacheState). list_any (is_above mark) s.disk) c.flush-reply.ensures.after in
    record {
      size = record {
        limits = kept.size.limits;
        cells = kept.size.cells;
        locks = kept.size.locks;
        frames = c.flush-reply.ensures.same_size.frame_count ∙ kept.size.frames;
        pages = c.flush-reply.ensures.same_size.page_count ∙ kept.size.pages;
        slots = kept.size.slots;
      };
      ahead = elim c.if-is_above.branch [
        | then-is_above w ↦ w.self-is ∙ lt-ltb _ _ w.if-is_above.true ∙ sym (disk_is ∙ stamped-above mark _ _ _ has (omega
            (arith, w.if-is_above.true, stamp_is, c.durable-mark.ensures.reply)))
        | else-is_above+then-self w ↦ w.self-is ∙ w.any_above.ensures ∙ ap (λ n. list_any (is_above n) now.disk) c.durable-mark.ensures.reply
        | else-is_above+else-self w ↦ w.self-is ∙ w.if-self.false ∙ sym (disk_is ∙ stamped-below mark _ _ _ has (omega
            (arith, w.if-is_above.false, stamp_is, c.durable-mark.ensures.reply)) (sym kept.ahead ∙ w.if-self.false))
      ];
    }
