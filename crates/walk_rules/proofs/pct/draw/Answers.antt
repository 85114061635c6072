use Rattle.std.proofs.Common.{length, sum, ap, sym, ◌∙◌}
use Rattle.seed_draws.specs.Answers.{after_bounds, answers}
use Rattle.seed_draws.specs.Falling.{falling}
use Rattle.pct_draws.specs.ChangePoints.{change_bounds}
use Rattle.walk_rules.proofs.PctDraws.{after-both, after-refused, draws-both, first-refused, second-refused}
use Rattle.walk_rules.proofs.pct.draw.Goals as goal

pub returns-in-Ok-draw_changes-clause-drawn : goal.returns-in-Ok-draw_changes-clause-drawn
returns-in-Ok-draw_changes-clause-drawn g c =
    draws-both g.S.Draws c.args.selected.now c.draw_order.new.selected (length c.args.counts.now)
    (change_bounds c.args.depth (sum c.args.counts.now)) c.in-Ok.order.items c.in-Ok-draw_changes.changes.items c.in-Ok.ensures.drawn
    c.in-Ok.ensures.order.long c.draw_order.ensures.selected
    (ap (λ n. answers g.S.Draws c.draw_order.new.selected (change_bounds c.args.depth n)) (sym c.sum.ensures.same) ∙ c.in-Ok-draw_changes.ensures.drawn)

pub returns-in-Ok-draw_changes-clause-selected : goal.returns-in-Ok-draw_changes-clause-selected
returns-in-Ok-draw_changes-clause-selected g c =
    after-both g.S.Draws c.args.selected.now c.draw_order.new.selected c.draw_changes.new.selected (length c.args.counts.now)
    (change_bounds c.args.depth (sum c.args.counts.now)) c.in-Ok.order.items c.in-Ok.ensures.drawn c.draw_order.ensures.selected
    (c.draw_changes.ensures.selected ∙ ap (λ n. after_bounds g.S.Draws c.draw_order.new.selected (change_bounds c.args.depth n)) c.sum.ensures.same)

pub returns-in-Err-draw_changes-clause-drawn : goal.returns-in-Err-draw_changes-clause-drawn
returns-in-Err-draw_changes-clause-drawn g c =
    second-refused g.S.Draws c.args.selected.now c.draw_order.new.selected (length c.args.counts.now)
    (change_bounds c.args.depth (sum c.args.counts.now)) c.in-Ok.order.items c.in-Err-draw_changes.fault c.in-Ok.ensures.drawn c.draw_order.ensures.selected
    (ap (λ n. answers g.S.Draws c.draw_order.new.selected (change_bounds c.args.depth n)) (sym c.sum.ensures.same) ∙ c.in-Err-draw_changes.ensures.drawn)

pub returns-in-Err-draw_changes-clause-selected : goal.returns-in-Err-draw_changes-clause-selected
returns-in-Err-draw_changes-clause-selected g c =
    after-both g.S.Draws c.args.selected.now c.draw_order.new.selected c.draw_changes.new.selected (length c.args.counts.now)
    (change_bounds c.args.depth (sum c.args.counts.now)) c.in-Ok.order.items c.in-Ok.ensures.drawn c.draw_order.ensures.selected
    (c.draw_changes.ensures.selected ∙ ap (λ n. after_bounds g.S.Draws c.draw_order.new.selected (change_bounds c.args.depth n)) c.sum.ensures.same)

pub returns-in-Err-clause-drawn : goal.returns-in-Err-clause-drawn
returns-in-Err-clause-drawn g c =
    first-refused g.S.Draws c.args.selected.now (falling (length c.args.counts.now))
    (change_bounds c.args.depth (sum c.args.counts.now)) c.in-Err.refusal c.in-Err.ensures.drawn

pub returns-in-Err-clause-selected : goal.returns-in-Err-clause-selected
returns-in-Err-clause-selected g c = c.draw_order.ensures.selected
    ∙ sym (after-refused g.S.Draws c.args.selected.now (falling (length c.args.counts.now))
    (change_bounds c.args.depth (sum c.args.counts.now)) c.in-Err.refusal c.in-Err.ensures.drawn)
