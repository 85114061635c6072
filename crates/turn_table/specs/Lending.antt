-- The state that a turn lends.
use Rattle.std.specs.Borrow.{Lends, MutBor, Fml}
use denote.RattleType.{RattleType}
use Rattle.turn_table.specs.Turn.{TurnState}
use Rattle.turn_table.specs.declared.rounded.Rounded.{Ghosts}
use Rattle.turn_table.specs.contracts.turn.Turn.{the_row}

module _ (T : RattleType) (ghosts : Ghosts T.Denot) (t : MutBor (TurnState T.Denot)) where
  -- what is written to the state is the turn's state afterwards, and the turn's round stays
  abbrev pub lends_state : MutBor T.Denot → Fml
  lends_state r = Lends (the_row T ghosts) T t r (λ x. record t.now { state = x })
