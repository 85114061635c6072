use Rattle.std.proofs.Common.{sym, ap, ◌∙◌, arith}
use Rattle.turn_table.proofs.SeatSteps.{splits}
use Rattle.turn_table.proofs.table.TurnTable.split_right.Goals as goal

pub split_seat-requires : goal.split_seat-requires
split_seat-requires g c =
    let t = c.self.invariant in
    (c.requires ∙ sym (ap (λ t. t.id) c.self.view_is), omega (arith, t.0), splits g.T.Rounded.round_of g.T.Rounded.granted_of _ _)
