use Rattle.surw_base.specs.declared.limits.TheConstants.{THREADS}
use Rattle.std.proofs.Common.{◌≡◌, ℕ, ◌<◌, List, [], get_or, length, ap, sym, subst, ◌∙◌, arith}
use Rattle.draw_split.specs.Bag.{pick, offset}
use Rattle.draw_split.proofs.Lists.{none-kept}
use Rattle.draw_split.proofs.NamedOrders.{split-none, split-next, split-all, next-thread, next-few, names-long, names-fits, names-rooms}
use Rattle.draw_split.proofs.naming.order_of.Goals as goal

pub loop-draw-init : goal.loop-draw-init
loop-draw-init c =
    split-none _ _ _ _ c.in_ok-checked.ensures.ok c.new-left.ensures c.in_ok-split.ensures.order
    (λ thread. ap (λ (l : List (List ℕ)). get_or l thread []) c.in_ok-split.ensures.offsets ∙ none-kept THREADS thread)

pub take-requires : goal.take-requires
take-requires c =
    let drawn = get_or c.args.draws.now c.loop-draw.draw-index 0 in
    let picked : c.split_one-thread.result.0 ≡ pick c.loop-draw.left drawn =
    c.split_one-thread.ensures.thread ∙ ap (λ (l : List ℕ). pick l drawn) c.as_slice.ensures.same in
    subst (λ (t : ℕ). 0 < get_or c.loop-draw.left t 0) (sym picked) (next-thread _ _ _ _ _ c.loop-draw.invariant c.loop-draw-test.true)

pub loop-draw-preserved : goal.loop-draw-preserved
loop-draw-preserved c =
    let drawn = get_or c.args.draws.now c.loop-draw.draw-index 0 in
    let picked : c.split_one-thread.result.0 ≡ pick c.loop-draw.left drawn =
    c.split_one-thread.ensures.thread ∙ ap (λ (l : List ℕ). pick l drawn) c.as_slice.ensures.same in
    let put : c.split_one-thread.result.1 ≡ offset c.loop-draw.left drawn =
    c.split_one-thread.ensures.offset ∙ ap (λ (l : List ℕ). offset l drawn) c.as_slice.ensures.same in
    let few = next-few _ _ _ _ _ c.loop-draw.invariant c.loop-draw-test.true in
    let lists : length c.loop-draw.split.offsets ≡ THREADS = c.in_ok-push.ensures.lists in
    split-next _ _ _ _ _ c.loop-draw.invariant c.loop-draw-test.true (omega (arith, few, lists, c.as_slice.ensures.threads))
    _ _ picked put _ c.take.ensures _ c.in_ok-push.ensures.order c.in_ok-push.ensures.offsets

pub returns-clause-ok : goal.returns-clause-ok
returns-clause-ok c = split-all _ _ _ _ _ c.loop-draw.invariant c.loop-draw-test.false

pub returns-clause-fits : goal.returns-clause-fits
returns-clause-fits c = names-fits _ _ _ (split-all _ _ _ _ _ c.loop-draw.invariant c.loop-draw-test.false)

pub returns-clause-rooms : goal.returns-clause-rooms
returns-clause-rooms c = names-rooms _ _ _ (split-all _ _ _ _ _ c.loop-draw.invariant c.loop-draw-test.false)

pub returns-clause-long : goal.returns-clause-long
returns-clause-long c = names-long _ _ _ (split-all _ _ _ _ _ c.loop-draw.invariant c.loop-draw-test.false)
