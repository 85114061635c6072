use Rattle.std.proofs.Common.{◌∷◌, Some, sym, ap, ◌∙◌, arith}
use Rattle.atomic_table.specs.Table.{rest}
use Rattle.turn_table.specs.Seat.{hand_of}
use Rattle.turn_table.proofs.LookSteps.{looks-as, is-mine}
use Rattle.turn_table.proofs.table.TurnTable.look.Goals as goal

pub load-found-requires : goal.load-found-requires
load-found-requires g c =
    let t = c.self.invariant in
    let i = c.seat.invariant in
    let v = c.seat.view_is in
    let off = ap (λ p. p.view.turn) v ∙ c.requires.rests in
    (ap (λ p. p.table) v ∙ c.requires.table ∙ sym (ap (λ t. t.id) c.self.view_is), omega (arith, t.0), looks-as _ _ _ _ c.seat.inside.number _ t.1 (i.2 ∙ ap hand_of off) off i.0 i.1)

pub exchange-requires : goal.exchange-requires
exchange-requires g c =
    let t = c.load-found.ensures in
    let m = is-mine g.T.Rounded.round_of g.T.Rounded.granted_of c.seat.inside.seat.me.0 c.load-found.result c.seat.inside.number c.load-found.new.seat.me c.seat.invariant.0 (c.if-holder-from.false ∙ c.from.ensures ∙ c.get.ensures.same) t.2 in
    (t.0 ∙ ap (λ p. p.table) c.seat.view_is ∙ c.requires.table ∙ sym (ap (λ t. t.id) c.self.view_is), (Some m.0, m.1 ∙ ap (λ l. (0, Some m.0) ∷ rest l) (sym m.1)))
