-- The turn rule: what holds of a turn table after each step. Word 0 is 32 * round + holder, word 1 counts the numbered seats, and the one slot has the state.
use Rattle.std.specs.Prelude.{◌≡◌, ℕ, Bool, true, false, ◌==◌, ◌<◌, ◌+◌, ◌*◌, ◌/◌, ◌%◌, ◌⊎◌, List, [], ◌∷◌, ◌++◌, Option, None, Some, MatchBool, if◌then◌else◌}
use mathlib.Core.Option.{some, none}
use mathlib.Core.Option as maybe
use lib.ListN.{get_elem?}
use Rattle.atomic_table.specs.Table.{State, Me, Step}
use Rattle.turn_table.specs.declared.view.View.{View}
use Rattle.turn_table.specs.Count.{AreBelow, bit, times, below, total}

-- the thread that a holder names; 31 names none
abbrev pub thread_of : ℕ → Option ℕ
thread_of h = if h == 31 then None else Some h

-- a seat's own number, as a list
abbrev pub own : Option ℕ → List ℕ
own None = []
own (Some n) = n ∷ []

-- whether there is a number
abbrev pub is_some : Option ℕ → Bool
is_some None = false
is_some (Some n) = true

-- a seat's own number, and those of the seats that it took in
abbrev pub numbers_of : View → List ℕ
numbers_of v = own v.number ++ v.numbers

-- the rounds that a seat was given, and those of the seats that it took in
abbrev pub rounds_of : View → List ℕ
rounds_of v = v.rounds ++ v.given

-- how many seats hold a turn
abbrev pub turns : List View → ℕ
turns = total (λ (v : View). bit v.turn)

-- how many seats have the right to number
abbrev pub rights : List View → ℕ
rights = total (λ (v : View). bit (is_some v.right))

-- what the rule says of one seat, in round r with holder h and w numbers given: a turn is that of the round and of the holder, the right to number is for the next number, and a seat without a number was given nothing
pub record Fits (r h w : ℕ) (v : View) : Type 0 where
  pub holds : v.turn ≡ true → (v.number ≡ Some h) × (v.last ≡ r)
  pub right : (k : ℕ) → v.right ≡ Some k → k ≡ w
  pub nobody : numbers_of v ≡ [] → (rounds_of v ≡ []) × (v.turn ≡ false)

-- the slot is home, with a state that has had this round's number and grants the holder the next, or it is out with a turn
abbrev pub Slot : {T : Type 0} → (T → ℕ) → (T → Option ℕ) → ℕ → ℕ → List (maybe.Option (Option T)) → ℕ → Type 0
Slot {T} round granted r h homes out =
    ((x : T) × (homes ≡ some (Some x) ∷ []) × (round x ≡ r) × (granted x ≡ thread_of h) × (out ≡ 0))
    ⊎ ((homes ≡ none ∷ []) × (out ≡ 1))

-- the rule: round, holder and count of the numbers stand in the words; each round up to now was given once, each number once, and one seat has the right to number
pub record Ruled {T : Type 0} (round : T → ℕ) (granted : T → Option ℕ) (s : State (Option T) View) : Type 0 where
  pub r : ℕ
  pub h : ℕ
  pub w : ℕ
  pub words : s.words ≡ (32 * r + h) ∷ w ∷ []
  pub small : h < 32
  pub slot : Slot round granted r h s.homes (turns s.views)
  pub rounds : (k : ℕ) → total (λ (v : View). times k (rounds_of v)) s.views ≡ below k (r + turns s.views)
  pub numbers : (k : ℕ) → total (λ (v : View). times k (numbers_of v)) s.views ≡ below k w
  pub one_right : rights s.views ≡ 1
  pub fits : (i : ℕ) (v : View) → get_elem? s.views i ≡ some v → Fits r h w v

-- a seat's number, or one that no word names
abbrev pub number_or : Option ℕ → ℕ
number_or None = 32
number_or (Some n) = n

-- the first seat of a new table: no number yet, and the right to number
abbrev pub first_view : View
first_view = record { number = None; numbers = []; rounds = []; given = []; last = 0; turn = false; word = 0; right = Some 0 }

-- a seat that has loaded the turn word n
abbrev pub after_look : View → ℕ → View
after_look v n = record v { word = n }

-- a seat that has loaded the turn word n, and was given its round
abbrev pub with_turn : View → ℕ → View
with_turn v n = record v { word = n; rounds = v.rounds ++ n / 32 ∷ []; last = n / 32; turn = true }

-- where the word names the seat, the slot comes to it, with the state of the word's round
abbrev pub Mine : {T : Type 0} → (T → ℕ) → (T → Option ℕ) → View → ℕ → Me (Option T) View → Type 0
Mine {T} round granted v n w = (x : T) × (w.1 ≡ (0, Some x) ∷ []) × (round x ≡ n / 32) × (granted x ≡ v.number) × (w.0 ≡ with_turn v n) × AreBelow (n / 32) v.rounds

-- elsewhere only the word is noted
abbrev pub NotMine : {T : Type 0} → View → ℕ → Me (Option T) View → Type 0
NotMine {T} v n w = (w.1 ≡ []) × (w.0 ≡ after_look v n)

-- the load of the turn word n
abbrev pub IsLook : {T : Type 0} → (T → ℕ) → (T → Option ℕ) → Step (Option T) → Me (Option T) View → ℕ → Me (Option T) View → Type 0
IsLook {T} round granted s v n w = MatchBool (n % 32 == number_or v.0.number) (Mine round granted v.0 n w) (NotMine v.0 n w)

-- a seat that has passed its turn on
abbrev pub after_pass : View → View
after_pass v = record v { turn = false }

-- the exchange that passes a turn on: the word was the expected one, and the slot goes home
abbrev pub IsPass : {T : Type 0} → Step (Option T) → Me (Option T) View → ℕ → Me (Option T) View → Type 0
IsPass {T} s v n w = (n ≡ s.first) × (w.1 ≡ []) × (w.0 ≡ after_pass v.0)

-- a seat that has got number n, and the right to the next
abbrev pub with_number : View → ℕ → View
with_number v n = record v { number = Some n; right = Some (n + 1) }

-- the step that gives a seat its number: it is the next one
abbrev pub IsNumbering : {T : Type 0} → Step (Option T) → Me (Option T) View → ℕ → Me (Option T) View → Type 0
IsNumbering {T} s v n w = (v.0.right ≡ Some n) × (w.1 ≡ []) × (w.0 ≡ with_number v.0 n)

-- a seat that has given the right to number away
abbrev pub without_right : View → View
without_right v = record v { right = None }

-- the new seat that has it
abbrev pub fresh_view : View → View
fresh_view v = record first_view { right = v.right }

-- the right to number of one of two seats
abbrev pub either_right : Option ℕ → Option ℕ → Option ℕ
either_right None b = b
either_right (Some n) b = Some n

-- a seat that has taken in another
abbrev pub joint_view : View → View → View
joint_view v u = record v { numbers = v.numbers ++ numbers_of u; given = v.given ++ rounds_of u; right = either_right v.right u.right }

-- the one that was taken in
abbrev pub spent_view : View
spent_view = record first_view { right = None }
