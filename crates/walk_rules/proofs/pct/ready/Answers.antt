use Rattle.std.proofs.Common.{◌+◌, ◌-◌, ◌≢◌, length, map, get_or, ap, sym, subst, ◌∙◌, arith}
use Rattle.std.specs.List.{range_with_len}
use Rattle.seed_draws.specs.Answers.{after_bounds, answers}
use Rattle.walk_rules.specs.Pct.{place_of}
use Rattle.walk_rules.specs.PctDraws.{draws_found}
use Rattle.walk_rules.specs.Ranked.{IsFresh}
use Rattle.pct_draws.specs.Order.{IsOrder}
use Rattle.walk_rules.specs.State.{memory_of}
use Rattle.walk_rules.proofs.FirstPriorities.{first-fresh, length-mapped}
use Rattle.pct_draws.proofs.DrawSteps.{after-nil}
use Rattle.walk_rules.proofs.PctDraws.{first-asks, first-found, later-asks, later-found}
use Rattle.walk_rules.proofs.pct.ready.Goals as goal

pub returns-then-step-gt0-clause-found : goal.returns-then-step-gt0-clause-found
returns-then-step-gt0-clause-found g c =
    later-found g.S.Draws c.args.selected.now c.args.depth c.args.step c.args.counts.now (memory_of c.args.ranks.now) c.if-step-gt0.true

pub returns-then-step-gt0-clause-selected : goal.returns-then-step-gt0-clause-selected
returns-then-step-gt0-clause-selected g c =
    sym (ap (after_bounds g.S.Draws c.args.selected.now) (later-asks c.args.depth c.args.step c.args.counts.now c.if-step-gt0.true)
    ∙ after-nil g.S.Draws c.args.selected.now)

pub returns-in-Ok-clause-found : goal.returns-in-Ok-clause-found
returns-in-Ok-clause-found g c =
    first-found c.args.depth c.args.step c.args.counts.now (memory_of c.args.ranks.now) c.put_in_order.new.self c.in-Ok.order.items c.in-Ok.changes.items _
    (ap (λ b. draws_found (length c.args.counts.now) (answers g.S.Draws c.args.selected.now b))
    (first-asks c.args.depth c.args.step c.args.counts.now (omega (arith, c.if-step-gt0.false))) ∙ c.in-Ok.ensures.drawn)
    (omega (arith, c.if-step-gt0.false)) c.in-Ok.ensures.order.long
    (c.put_in_order.ensures.priorities
    ∙ (λ i. map (λ thread. c.from.ensures i - 1 + length (c.as_slice.ensures.value i) - place_of (c.as_slice.ensures.value i) thread)
    (range_with_len 0 (length (c.as_slice.ensures.value i))))) c.put_in_order.ensures.changes

pub returns-in-Ok-clause-drawn : goal.returns-in-Ok-clause-drawn
returns-in-Ok-clause-drawn g c =
    ap length (c.put_in_order.ensures.priorities
    ∙ (λ i. map (λ thread. c.from.ensures i - 1 + length (c.as_slice.ensures.value i) - place_of (c.as_slice.ensures.value i) thread)
    (range_with_len 0 (length (c.as_slice.ensures.value i)))))
    ∙ length-mapped (λ thread. c.args.depth - 1 + length c.in-Ok.order.items - place_of c.in-Ok.order.items thread) 0 (length c.in-Ok.order.items)
    ∙ c.in-Ok.ensures.order.long

pub returns-in-Ok-clause-fresh : goal.returns-in-Ok-clause-fresh
unfolding IsFresh
returns-in-Ok-clause-fresh g c =
    λ i low reached thread.
    let each : IsOrder (length c.in-Ok.order.items) c.in-Ok.order.items =
    subst (λ n. IsOrder n c.in-Ok.order.items) (sym c.in-Ok.ensures.order.long) c.in-Ok.ensures.order in
    subst (λ p. get_or p thread 0 ≢ i + 1)
    (sym (c.put_in_order.ensures.priorities
    ∙ (λ i. map (λ thread. c.from.ensures i - 1 + length (c.as_slice.ensures.value i) - place_of (c.as_slice.ensures.value i) thread)
    (range_with_len 0 (length (c.as_slice.ensures.value i))))))
    (first-fresh c.args.depth c.in-Ok.order.items i thread each c.requires.depth.0 (omega (arith, low, ap length c.put_in_order.ensures.changes, c.in-Ok.ensures.points)))
