use Rattle.std.proofs.Common.{◌-◌, Bool, [], cond, length, replicate, Ok, ap, sym, ◌∙◌, arith}
use Rattle.std.proofs.lemmas.Bool.{eq-eqb, ne_eqb}
use Rattle.seed_draws.specs.Answers.{after_bounds, answers}
use Rattle.pct_draws.proofs.DrawSteps.{after-nil, answers-nil}
use Rattle.pct_draws.proofs.PointDraws.{points-all, points-more, points-refused, points-start}
use Rattle.pct_draws.proofs.change_points.draw_changes.Goals as goal
use Rattle.pct_draws.proofs.change_points.draw_changes.Goals.{then-events-gt0+else-loop-point-test, else-events-gt0}

pub loop-point-init : goal.loop-point-init
loop-point-init g c = rw (c.new-changes.ensures) (points-start g.S.Draws c.args.selected.now c.args.events (c.args.depth - 1))

pub push-requires : goal.push-requires
push-requires g c = omega (arith, c.loop-point.invariant.point_is, c.loop-point-test.true, c.requires.1)

pub loop-point-preserved : goal.loop-point-preserved
loop-point-preserved g c =
    points-more g.S.Draws c.args.selected.now c.loop-point.selected c.below.new.self c.args.events
    (c.args.depth - 1) c.in-Ok.draw c.loop-point._point c.loop-point.changes.items c.push.new.self.items c.loop-point.invariant
    (omega (arith, c.loop-point-test.true, c.requires.0))
    (sym c.below.ensures.answer ∙ c.in-Ok.is) c.below.ensures.after c.push.ensures.items

pub returns-in-Err-clause-drawn : goal.returns-in-Err-clause-drawn
returns-in-Err-clause-drawn g c =
    ap (answers g.S.Draws c.args.selected.now)
    (ap (λ (b : Bool). cond b [] (replicate (c.args.depth - 1) c.args.events)) (ne_eqb c.args.events 0 (λ e. omega (arith, e, c.if-events-gt0.true))))
    ∙ (points-refused g.S.Draws c.args.selected.now c.loop-point.selected c.below.new.self c.args.events
    (c.args.depth - 1) c.loop-point._point c.loop-point.changes.items c.in-Err.fault c.loop-point.invariant
    (omega (arith, c.loop-point-test.true, c.requires.0)) (sym c.below.ensures.answer ∙ c.in-Err.is) c.below.ensures.after).0

pub returns-in-Err-clause-selected : goal.returns-in-Err-clause-selected
returns-in-Err-clause-selected g c =
    (points-refused g.S.Draws c.args.selected.now c.loop-point.selected c.below.new.self c.args.events
    (c.args.depth - 1) c.loop-point._point c.loop-point.changes.items c.in-Err.fault c.loop-point.invariant
    (omega (arith, c.loop-point-test.true, c.requires.0)) (sym c.below.ensures.answer ∙ c.in-Err.is) c.below.ensures.after).1
    ∙ sym (ap (after_bounds g.S.Draws c.args.selected.now)
    (ap (λ (b : Bool). cond b [] (replicate (c.args.depth - 1) c.args.events)) (ne_eqb c.args.events 0 (λ e. omega (arith, e, c.if-events-gt0.true)))))

pub returns-clause-drawn : goal.returns-clause-drawn
returns-clause-drawn g c =
    elim c.if-events-gt0.branch [
      | then-events-gt0+else-loop-point-test w ↦
          ap (answers g.S.Draws c.args.selected.now)
          (ap (λ (b : Bool). cond b [] (replicate (c.args.depth - 1) c.args.events)) (ne_eqb c.args.events 0 (λ e. omega (arith, e, w.if-events-gt0.true))))
          ∙ (points-all g.S.Draws c.args.selected.now w.loop-point.selected c.args.events
          (c.args.depth - 1) w.loop-point._point w.loop-point.changes.items w.loop-point.invariant (omega (arith, w.loop-point-test.false, c.requires.0))).0
          ∙ ap (λ a. Ok a.items) (sym w.changes-is)
      | else-events-gt0 w ↦
          ap (answers g.S.Draws c.args.selected.now)
          (ap (λ (b : Bool). cond b [] (replicate (c.args.depth - 1) c.args.events)) (eq-eqb c.args.events 0 (omega (arith, w.if-events-gt0.false))))
          ∙ answers-nil g.S.Draws c.args.selected.now
          ∙ ap Ok (sym c.new-changes.ensures)
          ∙ ap (λ a. Ok a.items) (sym w.changes-is)
    ]

pub returns-clause-points : goal.returns-clause-points
returns-clause-points g c =
    elim c.if-events-gt0.branch [
      | then-events-gt0+else-loop-point-test w ↦
          omega (
            arith,
            (points-all g.S.Draws c.args.selected.now w.loop-point.selected c.args.events
                (c.args.depth - 1) w.loop-point._point w.loop-point.changes.items w.loop-point.invariant (omega (arith, w.loop-point-test.false, c.requires.0))).1,
            ap
                (λ a. length a.items) w.changes-is,
            c.requires.0,
          )
      | else-events-gt0 w ↦ omega (arith, ap (λ a. length a.items) w.changes-is, ap length c.new-changes.ensures, c.requires.0)
    ]

pub returns-clause-selected : goal.returns-clause-selected
returns-clause-selected g c =
    elim c.if-events-gt0.branch [
      | then-events-gt0+else-loop-point-test w ↦
          w.selected-is ∙ (points-all g.S.Draws c.args.selected.now w.loop-point.selected c.args.events
          (c.args.depth - 1) w.loop-point._point w.loop-point.changes.items w.loop-point.invariant (omega (arith, w.loop-point-test.false, c.requires.0))).2
          ∙ sym (ap (after_bounds g.S.Draws c.args.selected.now)
          (ap (λ (b : Bool). cond b [] (replicate (c.args.depth - 1) c.args.events)) (ne_eqb c.args.events 0 (λ e. omega (arith, e, w.if-events-gt0.true)))))
      | else-events-gt0 w ↦ w.selected-is ∙ sym (after-nil g.S.Draws c.args.selected.now)
          ∙ sym (ap (after_bounds g.S.Draws c.args.selected.now)
          (ap (λ (b : Bool). cond b [] (replicate (c.args.depth - 1) c.args.events)) (eq-eqb c.args.events 0 (omega (arith, w.if-events-gt0.false)))))
    ]
