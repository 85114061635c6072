use Rattle.std.proofs.Common.{◌≡◌, arith, sym, ◌∙◌}
use Rattle.std.proofs.lemmas.Grind.{common_steps}
use Rattle.draw_split.proofs.Bag.{IsAt, pick-at, offset-at}
use Rattle.draw_split.proofs.place.split_one.Goals as goal

pub returns-then-rest-count-clause-thread : goal.returns-then-rest-count-clause-thread
returns-then-rest-count-clause-thread c =
    let at : IsAt c.args.left.now c.args.draw c.loop-thread.thread c.loop-thread.rest = record { within = grind (arith, common_steps); there = c.loop-thread.invariant } in
    let found : c.unwrap.result ≡ c.loop-thread.thread = grind (arith, common_steps) in
    found ∙ sym (pick-at at)

pub returns-then-rest-count-clause-offset : goal.returns-then-rest-count-clause-offset
returns-then-rest-count-clause-offset c =
    let at : IsAt c.args.left.now c.args.draw c.loop-thread.thread c.loop-thread.rest = record { within = grind (arith, common_steps); there = c.loop-thread.invariant } in
    sym (offset-at at)
