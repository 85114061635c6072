-- What is seen of a gate, of its passes, and of a core that is lent.
use Rattle.std.specs.Prelude.{◌≡◌, ℕ, ◌+◌, ◌%◌, ◌<◌, ◌≤◌, Bool, true, false, List, [], ◌∷◌, ◌++◌, length, slice_get, Option, None, Some}
use Rattle.atomic_table.specs.Seated.{TableId}
use Rattle.seed_draws.specs.declared.draws.Draws.{Ghosts}
use Rattle.turn_table.specs.Seat.{SeatState, SeatsFrom, AreFresh, RestsAgain}
use Rattle.turn_table.specs.Turn.{TurnState, HoldsTurn}
use Rattle.pure_run.specs.declared.word.Word.TheVariants.{Due}
use Rattle.pure_run.specs.Core.{CoreState}
use Rattle.gate_core.specs.Held.{next_thread}

-- a gate: what tells its table from others, how many threads it has, and whether its passes were given out
pub record GateState : Type 0 where
  pub table : TableId
  pub threads : ℕ
  pub given : Bool

-- the pass is one of the table's
abbrev pub IsPassAt : TableId → SeatState → Type 0
IsPassAt table pass = pass.table ≡ table

-- the pass is one of the gate's
abbrev pub IsPassOf : GateState → SeatState → Type 0
IsPassOf gate pass = IsPassAt gate.table pass

-- so many passes of a table, in the order of their threads: all that there are
pub record AreAll (table : TableId) (threads : ℕ) (passes : List SeatState) : Type 0 where
  pub count : length passes ≡ threads
  pub row : SeatsFrom table 0 passes

-- all passes of a gate
abbrev pub AreAllPasses : GateState → List SeatState → Type 0
AreAllPasses gate passes = AreAll gate.table gate.threads passes

-- all passes of a gate, and none of them was given a step
abbrev pub AreNewPasses : GateState → List SeatState → Type 0
AreNewPasses gate passes = AreAllPasses gate passes × AreFresh passes

-- the seats that a gate keeps, in a list of this capacity: those of its passes until they are given out, or the one seat of a table without threads; and there is room for all
pub record KeepsSeats (gate : GateState) (seats : List SeatState) (capacity : ℕ) : Type 0 where
  pub passes : gate.given ≡ false → 0 < gate.threads → AreNewPasses gate seats
  pub spare : gate.threads ≡ 0 → AreAll gate.table 1 seats × AreFresh seats
  pub room : gate.threads ≤ capacity

-- a pass rests again, with the rounds that it had, and those of the seats that it took in
pub record IsBack (before after : SeatState) : Type 0 where
  pub again : RestsAgain before after
  pub rounds : after.view.rounds ≡ before.view.rounds
  pub given : after.view.given ≡ before.view.given

-- a pass is back, and the turn word that it loaded names no thread: no step follows
pub record IsToldOver (before after : SeatState) : Type 0 where
  pub back : IsBack before after
  pub over : after.view.word % 32 ≡ 31

-- each of some passes rests again
abbrev pub AllRestAgain : List SeatState → List SeatState → Type 0
AllRestAgain [] [] = Unit {0}
AllRestAgain (b ∷ before) (a ∷ after) = RestsAgain b a × AllRestAgain before after
AllRestAgain _ _ = ⊥

-- a core that is lent: with this seat, to this thread, for the step of this number, and whether the step was made
pub record LentState (S O : Type 0) : Type 0 where
  pub core : CoreState S O
  pub seat : SeatState
  pub thread : ℕ
  pub step : ℕ
  pub performed : Bool

-- the core of a turn, lent to this thread with this seat for the round of the turn
abbrev pub lent_state : {S O : Type 0} → TurnState (CoreState S O) → SeatState → ℕ → Bool → LentState S O
lent_state turn seat thread performed = record { core = turn.state; seat = seat; thread = thread; step = turn.round; performed = performed }

-- the last of some rounds
abbrev pub last_round : List ℕ → Option ℕ
last_round [] = None
last_round (round ∷ []) = Some round
last_round (round ∷ next ∷ rounds) = last_round (next ∷ rounds)

-- the thread is granted the next step, which has this number
pub record IsGranted {S O : Type 0} (selected_draws : Ghosts S) (other_draws : Ghosts O) (core : CoreState S O) (thread step : ℕ) : Type 0 where
  pub granted : next_thread selected_draws other_draws core ≡ Some thread
  pub number : step ≡ length core.journal

-- the step of this number was made, and its thread has to say its word
pub record IsMade {S O : Type 0} (core : CoreState S O) (thread step : ℕ) : Type 0 where
  pub due : slice_get core.words thread ≡ Some Due
  pub number : step + 1 ≡ length core.journal

-- the seat is the thread's, at this table, and holds the turn of the step, which is its last round; before the step the thread is granted it, and after it the thread's word is due
pub record IsLent {S O : Type 0} (selected_draws : Ghosts S) (other_draws : Ghosts O) (table : TableId) (lent : LentState S O) : Type 0 where
  pub seated : lent.seat.table ≡ table
  pub own : lent.seat.view.number ≡ Some lent.thread
  pub holds : HoldsTurn lent.seat.view (record { state = lent.core; round = lent.step })
  pub last : last_round lent.seat.view.rounds ≡ Some lent.step
  pub before : lent.performed ≡ false → IsGranted selected_draws other_draws lent.core lent.thread lent.step
  pub after : lent.performed ≡ true → IsMade lent.core lent.thread lent.step

-- a core is lent for this pass, and the step isn't made yet: its seat is the pass's, with the step as one round more, and its thread is granted that step
pub record IsLentTo {S O : Type 0} (selected_draws : Ghosts S) (other_draws : Ghosts O) (pass : SeatState) (lent : LentState S O) : Type 0 where
  pub table : lent.seat.table ≡ pass.table
  pub number : lent.seat.view.number ≡ pass.view.number
  pub right : lent.seat.view.right ≡ pass.view.right
  pub rounds : lent.seat.view.rounds ≡ pass.view.rounds ++ lent.step ∷ []
  pub given : lent.seat.view.given ≡ pass.view.given
  pub own : pass.view.number ≡ Some lent.thread
  pub waits : lent.performed ≡ false
  pub granted : IsGranted selected_draws other_draws lent.core lent.thread lent.step
