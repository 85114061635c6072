use Rattle.std.proofs.Common.{map, refl, ap, sym, ◌∙◌, arith}
use Rattle.std.specs.Simd.Lanes.{mask_l}
use Rattle.walk_rules.proofs.MarkedThreads.{over-marked}
use Rattle.walk_rules.specs.Seen.{is_able, is_announcing, is_unselected}
use Rattle.walk_rules.proofs.announced.Announced.new.Goals as goal

pub invariant_of-result : goal.invariant_of-result
invariant_of-result c = record {
  few = omega (arith, c.loop-thread.invariant.1, c.loop-thread.auto._thread-end, c.requires);
  announcing_marked = c.new.ensures ∙ sym (ap (λ view. mask_l (map is_announcing view)) c.loop-thread.invariant.0 ∙ over-marked is_announcing refl c.loop-thread._thread);
  able_marked = c.new-2.ensures ∙ sym (ap (λ view. mask_l (map is_able view)) c.loop-thread.invariant.0 ∙ over-marked is_able refl c.loop-thread._thread);
  unselected_marked = c.new-3.ensures ∙ sym (ap (λ view. mask_l (map is_unselected view)) c.loop-thread.invariant.0 ∙ over-marked is_unselected refl c.loop-thread._thread);
}
