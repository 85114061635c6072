-- The passes of a gate, one after another.
use Rattle.std.proofs.Common.{◌≡◌, ℕ, zero, suc, ◌+◌, ◌<◌, false, All, List, [], ◌∷◌, ◌++◌, length, map, Some, refl, ap, sym, subst, ◌∙◌, arith, append_assoc}
use Rattle.std.proofs.lemmas.List.{length-append}
use Rattle.std.proofs.lemmas.Option.{same_Some}
use Rattle.atomic_table.specs.Seated.{TableId}
use Rattle.turn_table.specs.Count.{times}
use Rattle.turn_table.specs.Seat.{SeatState, SeatsFrom, AreFresh, RestsAgain, right_of, given_to}
use Rattle.gate_core.specs.Gate.{AllRestAgain, AreAll, last_round}

-- the last of some rounds and one more is that one
pub last-more : (rounds : List ℕ) (round : ℕ) → last_round (rounds ++ round ∷ []) ≡ Some round
last-more [] round = refl
last-more (first ∷ []) round = refl
last-more (first ∷ next ∷ rounds) round = last-more (next ∷ rounds) round

in-row : (table : TableId) (k : ℕ) (front : List SeatState) (pass : SeatState) (rest : List SeatState) → SeatsFrom table k (front ++ pass ∷ rest)
    → (pass.table ≡ table) × (pass.view.number ≡ Some (k + length front))
in-row table k [] pass rest row = (row.0, row.1 ∙ ap Some (omega arith))
in-row table k (first ∷ front) pass rest row = let next = in-row table (k + 1) front pass rest row.4 in (next.0, next.1 ∙ ap Some (omega arith))

-- a pass in a row, behind some others: it is of the table, and of the thread of its place
pub record IsAtPlace (table : TableId) (front : List SeatState) (pass : SeatState) (row : List SeatState) : Type 0 where
  pub table_is : pass.table ≡ table
  pub thread : (thread : ℕ) → pass.view.number ≡ Some thread → thread ≡ length front
  pub within : length front < length row

pub at-place : (table : TableId) (front : List SeatState) (pass : SeatState) (rest row : List SeatState) → (front ++ pass ∷ []) ++ rest ≡ row → SeatsFrom table 0 row → IsAtPlace table front pass row
at-place table front pass rest row is seated =
    let split : front ++ pass ∷ rest ≡ row = sym (append_assoc front (pass ∷ []) rest) ∙ is in
    let at = in-row table 0 front pass rest (subst (SeatsFrom table 0) (sym split) seated) in record {
      table_is = at.0;
      thread = λ thread has. same_Some thread (length front) (sym has ∙ at.1 ∙ ap Some (omega arith));
      within = omega (arith, ap length split, length-append front (pass ∷ rest));
    }

-- no seat in a row holds a turn
pub row-rests : (table : TableId) (k : ℕ) (seats : List SeatState) → SeatsFrom table k seats → All (λ seat. seat.view.turn ≡ false) seats
row-rests table k [] row j d within = absurd (omega (arith, within))
row-rests table k (seat ∷ seats) row zero d within = row.2
row-rests table k (seat ∷ seats) row (suc j) d within = row-rests table (k + 1) seats row.4 j d (omega (arith, within))

-- one pass more rests again
pub again-more : {A : Type 0} (f : A → SeatState) (items : List A) (item : A) (after now : List SeatState) (pass : SeatState)
    → AllRestAgain (map f items) after → RestsAgain (f item) pass → now ≡ after ++ pass ∷ [] → AllRestAgain (map f (items ++ item ∷ [])) now
again-more f [] item [] now pass all one is = subst (AllRestAgain (f item ∷ [])) (sym is) (one, tt)
again-more f [] item (a ∷ after) now pass all one is = absurd all
again-more f (x ∷ items) item [] now pass all one is = absurd all
again-more f (x ∷ items) item (a ∷ after) now pass all one is =
    subst (AllRestAgain (f x ∷ map f (items ++ item ∷ []))) (sym is) (all.0, again-more f items item after (after ++ pass ∷ []) pass all.1 one refl)

again-length : (before after : List SeatState) → AllRestAgain before after → length after ≡ length before
again-length [] [] all = refl
again-length [] (a ∷ after) all = absurd all
again-length (b ∷ before) [] all = absurd all
again-length (b ∷ before) (a ∷ after) all = let rest = again-length before after all.1 in omega (arith, rest)

right-again : (k : ℕ) (before after : List SeatState) → AllRestAgain before after → right_of k before ≡ right_of k after
right-again k [] [] all = refl
right-again k [] (a ∷ after) all = absurd all
right-again k (b ∷ before) [] all = absurd all
right-again k (b ∷ before) (a ∷ after) all = refl

-- passes that rest again are a row as before
row-again : (table : TableId) (k : ℕ) (before after : List SeatState) → AllRestAgain before after → SeatsFrom table k before → SeatsFrom table k after
row-again table k [] [] all row = tt
row-again table k [] (a ∷ after) all row = absurd all
row-again table k (b ∷ before) [] all row = absurd all
row-again table k (b ∷ before) (a ∷ after) all row =
    (all.0.table ∙ row.0, all.0.number ∙ row.1, all.0.rests, all.0.right ∙ row.3 ∙ right-again k before after all.1, row-again table (k + 1) before after all.1 row.4)

-- passes that rest again are all passes
pub all-again : (table : TableId) (threads : ℕ) (before after : List SeatState) → AreAll table threads before → AllRestAgain before after → AreAll table threads after
all-again table threads before after all again = record {
  count = again-length before after again ∙ all.count;
  row = row-again table 0 before after again all.row;
}

-- seats that were given no round
fresh-none : (k : ℕ) (seats : List SeatState) → AreFresh seats → given_to k seats ≡ 0
fresh-none k [] fresh = refl
fresh-none k (seat ∷ seats) fresh = let here = ap (times k) fresh.0 in let rest = fresh-none k seats fresh.1 in omega (arith, here, rest)

-- the seats in the end were given what the passes were, where they are those of the passes, or kept ones that were given nothing
pub same-rounds : (k : ℕ) (passes kept seats : List SeatState) → (0 < length passes → seats ≡ passes) → (length passes ≡ 0 → seats ≡ kept) → (length passes ≡ 0 → AreFresh kept)
    → given_to k passes ≡ given_to k seats
same-rounds k [] kept seats all none fresh = sym (ap (given_to k) (none refl) ∙ fresh-none k kept (fresh refl))
same-rounds k (pass ∷ passes) kept seats all none fresh = ap (given_to k) (sym (all (omega arith)))
