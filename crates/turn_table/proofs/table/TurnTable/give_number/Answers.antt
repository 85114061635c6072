use Rattle.std.proofs.Common.{sym, ap, ◌∙◌, arith}
use Rattle.turn_table.proofs.SeatSteps.{numbers-as}
use Rattle.turn_table.proofs.table.TurnTable.give_number.Goals as goal

pub fetch_add-requires : goal.fetch_add-requires
fetch_add-requires g c =
    let t = c.self.invariant in
    let r = c.requires in
    let here = r.table ∙ sym (ap (λ t. t.id) c.self.view_is) in
    (here, omega (arith, t.0), numbers-as g.T.Rounded.round_of g.T.Rounded.granted_of _ _ c.args.number _ t.1 r.seat.0 r.right.0 r.right.1 r.seat.1)
