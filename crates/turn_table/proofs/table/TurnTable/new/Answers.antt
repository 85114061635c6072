use Rattle.std.proofs.Common.{◌≡◌, Some, [], ◌∷◌, ◌++◌, sym, ap, ◌∙◌, subst}
use Rattle.atomic_table.specs.Table.{opening}
use Rattle.turn_table.specs.Rule.{Ruled, first_view}
use Rattle.turn_table.proofs.TableEnds.{opens}
use Rattle.turn_table.proofs.table.TurnTable.new.Goals as goal

pub new-requires : goal.new-requires
new-requires g c =
    let items : c.push.new.self.items ≡ Some c.args.state ∷ [] = c.in_ok-push.ensures.items ∙ ap (λ l. l ++ Some c.args.state ∷ []) c.new-slots.ensures.items in
    subst (λ items. Ruled g.T.Rounded.round_of g.T.Rounded.granted_of (opening (c.holder_of-holder.result ∷ 0 ∷ []) items first_view)) (sym items)
    (opens g.T.Rounded.round_of g.T.Rounded.granted_of c.args.state c.holder_of-holder.result c.requires.round (sym c.granted.ensures ∙ c.holder_of-holder.ensures.thread) c.holder_of-holder.ensures.small)
