-- Seats as contracts see them, alone and in a row.
use Rattle.std.specs.Prelude.{◌≡◌, ℕ, Bool, true, false, ◌+◌, List, [], ◌∷◌, Option, None, Some}
use Rattle.turn_table.specs.declared.view.View.{View}
use Rattle.atomic_table.specs.Seated.{TableId}
use Rattle.turn_table.specs.Count.{times}
use Rattle.turn_table.specs.Rule.{rounds_of}

-- a seat: what tells its table from others, and what it knows
pub record SeatState : Type 0 where
  pub table : TableId
  pub view : View

-- the slot is out with the seat, and empty, while it holds a turn
abbrev pub hand_of : {T : Type 0} → Bool → List (ℕ × Option T)
hand_of true = (0, None) ∷ []
hand_of false = []

-- the right to number of seat k: the last one's, where no others follow
abbrev pub right_of : ℕ → List SeatState → Option ℕ
right_of k [] = Some (k + 1)
right_of k (s ∷ ss) = None

-- all seats of a table from number k on, in their order; none of them holds a turn
abbrev pub SeatsFrom : TableId → ℕ → List SeatState → Type 0
SeatsFrom id k [] = Unit {0}
SeatsFrom id k (s ∷ ss) = (s.table ≡ id) × (s.view.number ≡ Some k) × (s.view.turn ≡ false) × (s.view.right ≡ right_of k ss) × SeatsFrom id (k + 1) ss

-- some seats of a table from number k on, in their order; none of them holds a turn, nor the right to number
abbrev pub AreNumbered : TableId → ℕ → List SeatState → Type 0
AreNumbered id k [] = Unit {0}
AreNumbered id k (s ∷ ss) = (s.table ≡ id) × (s.view.number ≡ Some k) × (s.view.turn ≡ false) × (s.view.right ≡ None) × AreNumbered id (k + 1) ss

-- these seats were given no round
abbrev pub AreFresh : List SeatState → Type 0
AreFresh [] = Unit {0}
AreFresh (s ∷ ss) = (rounds_of s.view ≡ []) × AreFresh ss

-- how often a round was given to these seats
abbrev pub given_to : ℕ → List SeatState → ℕ
given_to k [] = 0
given_to k (s ∷ ss) = times k (rounds_of s.view) + given_to k ss

-- a seat rests again: of the same table, with its number and its right to number, and without a turn
pub record RestsAgain (before after : SeatState) : Type 0 where
  pub table : after.table ≡ before.table
  pub number : after.view.number ≡ before.view.number
  pub right : after.view.right ≡ before.view.right
  pub rests : after.view.turn ≡ false
