-- Turns, and what a look at the turn word tells a seat. The word is 32 * round + holder; the holder 31 means that no round follows.
use Rattle.std.specs.Prelude.{◌≡◌, ◌≢◌, ℕ, ◌/◌, ◌%◌, true, Option, Some}
use Rattle.turn_table.specs.declared.view.View.{View}
use Rattle.turn_table.specs.Count.{AreBelow}
use Rattle.turn_table.specs.Rule.{after_look, with_turn}

-- a turn: the state, which is out, and the round that it is for
pub record TurnState (T : Type 0) : Type 0 where
  pub state : T
  pub round : ℕ

-- a turn is the seat's: the word that was loaded names its thread, and the turn has the word's round, which is above all rounds of the seat so far; the state has had so many rounds and grants the thread the next
pub record IsTurnOf {T : Type 0} (round_of : T → ℕ) (granted_of : T → Option ℕ) (before after : View) (turn : TurnState T) : Type 0 where
  pub named : before.number ≡ Some (after.word % 32)
  pub round : turn.round ≡ after.word / 32
  pub above : AreBelow turn.round before.rounds
  pub state_round : round_of turn.state ≡ turn.round
  pub granted : granted_of turn.state ≡ before.number
  pub seat : after ≡ with_turn before after.word

-- the word that was loaded names another thread, and nothing of the seat changed but the word
pub record IsOthers (before after : View) : Type 0 where
  pub unnamed : before.number ≢ Some (after.word % 32)
  pub goes_on : after.word % 32 ≢ 31
  pub seat : after ≡ after_look before after.word

-- the word that was loaded says that no round follows, and nothing of the seat changed but the word
pub record IsOver (before after : View) : Type 0 where
  pub over : after.word % 32 ≡ 31
  pub unnamed : before.number ≢ Some (after.word % 32)
  pub seat : after ≡ after_look before after.word

-- the word that was loaded doesn't name the seat's thread, and nothing of the seat changed but the word
pub record IsNotMine (before after : View) : Type 0 where
  pub unnamed : before.number ≢ Some (after.word % 32)
  pub seat : after ≡ after_look before after.word

-- the seat holds this turn
pub record HoldsTurn {T : Type 0} (seat : View) (turn : TurnState T) : Type 0 where
  pub out : seat.turn ≡ true
  pub last : seat.last ≡ turn.round
