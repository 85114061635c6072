use Rattle.std.proofs.Common.{◌≡◌, ◌<◌, ◌^◌, Bool, List, cond, get_or, length, map, set, ap, ◌∙◌, arith}
use Rattle.std.proofs.lemmas.List.{length-set}
use Rattle.std.specs.List.{refill}
use Rattle.std.specs.Simd.Lanes.{mask_l}
use Rattle.walk_rules.specs.declared.seen.Seen.{Seen}
use Rattle.walk_rules.specs.Seen.{is_able, is_announcing, is_unselected}
use Rattle.walk_rules.specs.declared.seen.Seen.TheVariants.{Over}
use Rattle.walk_rules.proofs.MarkedThreads.{marked-has, marked-set, refill-all}
use Rattle.walk_rules.proofs.announced.Announced.set.Goals as goal

pub change-requires-clause-before : goal.change-requires-clause-before
change-requires-clause-before c =
    let place : c.from-place.result ≡ c.args.thread = c.from-place.ensures ∙ c.get.ensures.same in
    let was = c.is_announcing.ensures ∙ (λ i. is_announcing (get_or (c.deref.ensures.0 i) (place i) Over)) in
    let has = marked-has is_announcing c.self.inside.seen.items c.args.thread (omega (arith, c.requires, ap length c.self.view_is)) in
    let same = ap (λ marked. cond marked (2 ^ c.args.thread) 0) was in
    omega (arith, has, same, c.self.invariant.announcing_marked)

pub change-requires-2-clause-before : goal.change-requires-2-clause-before
change-requires-2-clause-before c =
    let place : c.from-place.result ≡ c.args.thread = c.from-place.ensures ∙ c.get.ensures.same in
    let was = c.is_able.ensures ∙ (λ i. is_able (get_or (c.deref.ensures.0 i) (place i) Over)) in
    let has = marked-has is_able c.self.inside.seen.items c.args.thread (omega (arith, c.requires, ap length c.self.view_is)) in
    let same = ap (λ marked. cond marked (2 ^ c.args.thread) 0) was in
    omega (arith, has, same, c.self.invariant.able_marked)

pub change-requires-3-clause-before : goal.change-requires-3-clause-before
change-requires-3-clause-before c =
    let place : c.from-place.result ≡ c.args.thread = c.from-place.ensures ∙ c.get.ensures.same in
    let was = c.is_unselected.ensures ∙ (λ i. is_unselected (get_or (c.deref.ensures.0 i) (place i) Over)) in
    let has = marked-has is_unselected c.self.inside.seen.items c.args.thread (omega (arith, c.requires, ap length c.self.view_is)) in
    let same = ap (λ marked. cond marked (2 ^ c.args.thread) 0) was in
    omega (arith, has, same, c.self.invariant.unselected_marked)

pub invariant_of-self : goal.invariant_of-self
invariant_of-self c =
    let items = c.self.inside.seen.items in
    let thread = c.args.thread in
    let seen = c.args.seen in
    let within : thread < length items = omega (arith, c.requires, ap length c.self.view_is) in
    let place : c.from-place.result ≡ thread = c.from-place.ensures ∙ c.get.ensures.same in
    let before : get_or c.deref.result.now c.from-place.result Over ≡ get_or items thread Over = (λ i. get_or (c.deref.ensures.0 i) (place i) Over) in
    let put : set c.deref_mut.result.now c.from-place.result seen ≡ set items thread seen = (λ i. set (c.deref_mut.ensures.value i) (place i) seen) in
    let is : refill (length items) items (set c.deref_mut.result.now c.from-place.result seen) ≡ set items thread seen =
    ap (refill (length items) items) put ∙ refill-all items (set items thread seen) (length-set items thread seen) in
    record {
      few = omega (arith, c.self.invariant.few, ap length is, length-set items thread seen);
      announcing_marked =
          let moved = marked-set is_announcing items thread seen within in
          let was = ap (λ (b : Bool). cond b (2 ^ thread) 0) (c.is_announcing.ensures ∙ ap is_announcing before) in
          let now = ap (λ (b : Bool). cond b (2 ^ thread) 0) c.is_announcing-2.ensures in
          let same = ap (λ (view : List Seen). mask_l (map is_announcing view)) is in
          omega (arith, moved, was, now, same, c.change.ensures, c.self.invariant.announcing_marked);
      able_marked =
          let moved = marked-set is_able items thread seen within in
          let was = ap (λ (b : Bool). cond b (2 ^ thread) 0) (c.is_able.ensures ∙ ap is_able before) in
          let now = ap (λ (b : Bool). cond b (2 ^ thread) 0) c.is_able-2.ensures in
          let same = ap (λ (view : List Seen). mask_l (map is_able view)) is in
          omega (arith, moved, was, now, same, c.change-2.ensures, c.self.invariant.able_marked);
      unselected_marked =
          let moved = marked-set is_unselected items thread seen within in
          let was = ap (λ (b : Bool). cond b (2 ^ thread) 0) (c.is_unselected.ensures ∙ ap is_unselected before) in
          let now = ap (λ (b : Bool). cond b (2 ^ thread) 0) c.is_unselected-2.ensures in
          let same = ap (λ (view : List Seen). mask_l (map is_unselected view)) is in
          omega (arith, moved, was, now, same, c.change-3.ensures, c.self.invariant.unselected_marked);
    }
