use Rattle.std.proofs.Common.{◌-◌}
use Rattle.pct_draws.proofs.PointDraws.{ArePointsSoFar}
use Rattle.pct_draws.proofs.change_points.draw_changes.Given as goal

abbrev pub invariant-loop-point : goal.invariant-loop-point
invariant-loop-point g l = ArePointsSoFar g.S.Draws l.initial.selected l.selected l.events (l.depth - 1) l.changes.items l._point
