use Rattle.std.proofs.Common.{ℕ, take, ap, ◌∙◌}
use Rattle.draw_split.proofs.Bag.{pick-at, offset-at, only-at, summed-at}
use Rattle.draw_split.proofs.place.join_one.Goals as goal

pub returns-clause-thread : goal.returns-clause-thread
returns-clause-thread c =
    let cut = c.split_at.ensures.front ∙ ap (λ (n : ℕ). take n c.args.left.now) (c.from.ensures ∙ c.get.ensures.same) in
    pick-at (summed-at c.args.left.now c.split_at.result.0.now c.loop-count.draw c.args.thread c.args.offset c.loop-count.count-index c.requires.room cut c.loop-count.invariant.0 c.loop-count-test.false)

pub returns-clause-offset : goal.returns-clause-offset
returns-clause-offset c =
    let cut = c.split_at.ensures.front ∙ ap (λ (n : ℕ). take n c.args.left.now) (c.from.ensures ∙ c.get.ensures.same) in
    offset-at (summed-at c.args.left.now c.split_at.result.0.now c.loop-count.draw c.args.thread c.args.offset c.loop-count.count-index c.requires.room cut c.loop-count.invariant.0 c.loop-count-test.false)

pub returns-clause-only : goal.returns-clause-only
returns-clause-only c =
    let cut = c.split_at.ensures.front ∙ ap (λ (n : ℕ). take n c.args.left.now) (c.from.ensures ∙ c.get.ensures.same) in
    only-at c.args.left.now c.loop-count.draw c.args.thread c.args.offset
    (summed-at c.args.left.now c.split_at.result.0.now c.loop-count.draw c.args.thread c.args.offset c.loop-count.count-index c.requires.room cut c.loop-count.invariant.0 c.loop-count-test.false)
