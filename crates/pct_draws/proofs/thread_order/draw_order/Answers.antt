use Rattle.std.proofs.Common.{◌<◌, get_or, length, sum, ap, sym, subst, ◌∙◌, arith}
use Rattle.draw_split.specs.Bag.{pick}
use Rattle.draw_split.proofs.Bag.{sum-less_one}
use Rattle.pct_draws.proofs.OrderDraws.{order-all, order-refused, ordered-more, ordered-start, some-there}
use Rattle.pct_draws.proofs.thread_order.draw_order.Goals as goal

pub take-requires : goal.take-requires
take-requires g c =
    let there : 0 < get_or c.loop-left.left c.split_one-thread.result.0 0 =
    subst (λ t. 0 < get_or c.loop-left.left t 0) (sym (c.split_one-thread.ensures.thread ∙ ap (λ l. pick l c.in-Ok.draw) c.as_slice.ensures.same))
    (some-there c.loop-left.left c.in-Ok.draw (omega (arith, c.in-Ok.ensures.below, c.sum-in-loop-left.ensures.same))) in
    there

pub loop-left-smaller : goal.loop-left-smaller
loop-left-smaller g c =
    let there : 0 < get_or c.loop-left.left c.split_one-thread.result.0 0 =
    subst (λ t. 0 < get_or c.loop-left.left t 0) (sym (c.split_one-thread.ensures.thread ∙ ap (λ l. pick l c.in-Ok.draw) c.as_slice.ensures.same))
    (some-there c.loop-left.left c.in-Ok.draw (omega (arith, c.in-Ok.ensures.below, c.sum-in-loop-left.ensures.same))) in
    omega (arith, ap sum c.take.ensures, sum-less_one c.loop-left.left c.split_one-thread.result.0 there)

pub loop-left-init : goal.loop-left-init
loop-left-init g c =
    rw (c.new-order.ensures) (ordered-start g.S.Draws c.args.selected.now (length c.args.counts.now) c.ones-left.result c.ones-left.ensures.ones)

pub loop-left-preserved : goal.loop-left-preserved
loop-left-preserved g c =
    ordered-more g.S.Draws c.args.selected.now c.loop-left.selected c.below.new.self
    (length c.args.counts.now) c.in-Ok.draw c.split_one-thread.result.0 _ c.loop-left.left c.loop-left.order.items c.take.new.self c.push.new.self.items
    c.loop-left.invariant (omega (arith, c.loop-left-test.true, c.sum.ensures.same))
    (ap (λ b. g.S.Draws.answer c.loop-left.selected b) (sym c.sum-in-loop-left.ensures.same) ∙ sym c.below.ensures.answer ∙ c.in-Ok.is)
    (omega (arith, c.in-Ok.ensures.below, c.sum-in-loop-left.ensures.same))
    (c.below.ensures.after ∙ ap (λ b. g.S.Draws.after_answer c.loop-left.selected b) c.sum-in-loop-left.ensures.same)
    (c.split_one-thread.ensures.thread ∙ ap (λ l. pick l c.in-Ok.draw) c.as_slice.ensures.same) c.get.ensures.same c.take.ensures c.push.ensures.items

pub returns-in-Err-clause-drawn : goal.returns-in-Err-clause-drawn
returns-in-Err-clause-drawn g c =
    (order-refused g.S.Draws c.args.selected.now c.loop-left.selected c.below.new.self
    (length c.args.counts.now) c.loop-left.left c.loop-left.order.items c.in-Err.fault c.loop-left.invariant
    (omega (arith, c.loop-left-test.true, c.sum.ensures.same))
    (ap (λ b. g.S.Draws.answer c.loop-left.selected b) (sym c.sum-in-loop-left.ensures.same) ∙ sym c.below.ensures.answer ∙ c.in-Err.is)
    (c.below.ensures.after ∙ ap (λ b. g.S.Draws.after_answer c.loop-left.selected b) c.sum-in-loop-left.ensures.same)).0

pub returns-in-Err-clause-selected : goal.returns-in-Err-clause-selected
returns-in-Err-clause-selected g c =
    (order-refused g.S.Draws c.args.selected.now c.loop-left.selected c.below.new.self
    (length c.args.counts.now) c.loop-left.left c.loop-left.order.items c.in-Err.fault c.loop-left.invariant
    (omega (arith, c.loop-left-test.true, c.sum.ensures.same))
    (ap (λ b. g.S.Draws.answer c.loop-left.selected b) (sym c.sum-in-loop-left.ensures.same) ∙ sym c.below.ensures.answer ∙ c.in-Err.is)
    (c.below.ensures.after ∙ ap (λ b. g.S.Draws.after_answer c.loop-left.selected b) c.sum-in-loop-left.ensures.same)).1

pub returns-clause-drawn : goal.returns-clause-drawn
returns-clause-drawn g c = (order-all g.S.Draws c.args.selected.now c.loop-left.selected
    (length c.args.counts.now) c.loop-left.left c.loop-left.order.items c.loop-left.invariant (omega (arith, c.loop-left-test.false, c.sum.ensures.same))).0

pub returns-clause-order : goal.returns-clause-order
returns-clause-order g c = (order-all g.S.Draws c.args.selected.now c.loop-left.selected
    (length c.args.counts.now) c.loop-left.left c.loop-left.order.items c.loop-left.invariant (omega (arith, c.loop-left-test.false, c.sum.ensures.same))).1

pub returns-clause-selected : goal.returns-clause-selected
returns-clause-selected g c = (order-all g.S.Draws c.args.selected.now c.loop-left.selected
    (length c.args.counts.now) c.loop-left.left c.loop-left.order.items c.loop-left.invariant (omega (arith, c.loop-left-test.false, c.sum.ensures.same))).2
