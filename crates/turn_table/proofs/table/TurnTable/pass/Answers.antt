use Rattle.std.proofs.Common.{◌≡◌, ◌+◌, [], ◌∷◌, Some, None, sym, ap, ◌∙◌, arith}
use Rattle.atomic_table.specs.Table.{rest}
use Rattle.turn_table.specs.Seat.{hand_of}
use Rattle.turn_table.proofs.PassSteps.{passes-as}
use Rattle.turn_table.proofs.table.TurnTable.pass.Goals as goal

pub compare_exchange-requires : goal.compare_exchange-requires
compare_exchange-requires g c =
    let t = c.self.invariant in
    let i = c.seat.invariant in
    let v = c.seat.view_is in
    let turn = c.turn.view_is in
    let x = c.exchange.ensures in
    let r = c.requires in
    let on = ap (λ p. p.view.turn) v ∙ r.given.out in
    let was : c.seat.inside.seat.me.1 ≡ (0, None) ∷ [] = i.2 ∙ ap hand_of on in
    let now = ap (λ m. m.1) x.3 ∙ ap (λ l. (0, Some c.turn.inside.state) ∷ rest l) was in
    let view = ap (λ m. m.0) x.3 in (
      x.0 ∙ ap (λ p. p.table) v ∙ r.table ∙ sym (ap (λ t. t.id) c.self.view_is),
      omega (arith, t.0),
      passes-as g.T.Rounded.round_of g.T.Rounded.granted_of _ _ c.turn.inside.round c.seat.inside.number c.holder_of-holder.result _ _ c.turn.inside.state _ t.1 now
          (ap (λ w. w.turn) view ∙ on) (ap (λ w. w.number) view ∙ i.0) (ap (λ w. w.last) view ∙ ap (λ p. p.view.last) v ∙ r.given.last ∙ sym (ap (λ t. t.round) turn)) (ap (λ t. g.T.Rounded.round_of t.state) turn ∙ r.round ∙ sym (ap (λ t. t.round + 1) turn)) (ap (λ t. g.T.Rounded.granted_of t.state) turn ∙ r.granted ∙ c.holder_of-holder.ensures.thread) c.holder_of-holder.ensures.small
          (omega (arith, c.from.ensures, c.from-2.ensures)) (omega (arith, c.from-3.ensures)),
    )
