-- Seats that are numbered one after another.
use Rattle.std.proofs.Common.{◌≡◌, ℕ, ◌+◌, ◌<◌, ◌≤◌, nat_eq, List, [], ◌∷◌, ◌++◌, length, Option, Some, None, false, refl, sym, ap, ◌∙◌, subst, arith}
use Rattle.turn_table.specs.declared.view.View.{View}
use Rattle.atomic_table.specs.Seated.{TableId}
use Rattle.turn_table.specs.Count.{times, bit, below}
use Rattle.turn_table.specs.Rule.{numbers_of, rounds_of, own, joint_view}
use Rattle.turn_table.proofs.Totals.{times-append, below-more, below-in, bit-same}
use mathlib.Core.Logic.{dite}
use native.Mathlib.Decide.{dec_le}
use Rattle.turn_table.specs.Seat.{AreNumbered, SeatsFrom, AreFresh, right_of, given_to, SeatState}

pub numbered-more : (id : TableId) (k : ℕ) (xs : List SeatState) (s : SeatState) → AreNumbered id k xs → s.table ≡ id → s.view.number ≡ Some (k + length xs) → s.view.turn ≡ false → s.view.right ≡ None → AreNumbered id k (xs ++ s ∷ [])
numbered-more id k [] s h a b c d = (a, b ∙ ap Some (omega arith), c, d, tt)
numbered-more id k (x ∷ xs) s h a b c d = (h.0, h.1, h.2, h.3, numbered-more id (k + 1) xs s h.4 a (b ∙ ap Some (omega arith)) c d)

pub all-seated : (id : TableId) (k : ℕ) (xs : List SeatState) (s : SeatState) → AreNumbered id k xs → s.table ≡ id → s.view.number ≡ Some (k + length xs) → s.view.turn ≡ false → s.view.right ≡ Some (k + length xs + 1) → SeatsFrom id k (xs ++ s ∷ [])
all-seated id k [] s h a b c d = (a, b ∙ ap Some (omega arith), c, d ∙ ap Some (omega arith), tt)
all-seated id k (x ∷ xs) s h a b c d = (h.0, h.1, h.2, h.3 ∙ sym (not-last xs), all-seated id (k + 1) xs s h.4 a (b ∙ ap Some (omega arith)) c (d ∙ ap Some (omega arith)))
  where
    not-last : (l : List SeatState) → right_of k (l ++ s ∷ []) ≡ None
    not-last [] = refl
    not-last (y ∷ ys) = refl

pub fresh-more : (xs : List SeatState) (s : SeatState) → AreFresh xs → rounds_of s.view ≡ [] → AreFresh (xs ++ s ∷ [])
fresh-more [] s h r = (r, tt)
fresh-more (x ∷ xs) s h r = (h.0, fresh-more xs s h.1 r)

-- the last of the numbered seats
pub numbered-less : (id : TableId) (k : ℕ) (xs : List SeatState) (s : SeatState) → AreNumbered id k (xs ++ s ∷ []) → AreNumbered id k xs × (s.table ≡ id) × (s.view.number ≡ Some (k + length xs)) × (s.view.turn ≡ false) × (s.view.right ≡ None)
numbered-less id k [] s h = (tt, h.0, h.1 ∙ ap Some (omega arith), h.2, h.3)
numbered-less id k (x ∷ xs) s h = let t = numbered-less id (k + 1) xs s h.4 in ((h.0, h.1, h.2, h.3, t.0), t.1, t.2 ∙ ap Some (omega arith), t.3, t.4)

pub given-more : (k : ℕ) (xs : List SeatState) (s : SeatState) → given_to k (xs ++ s ∷ []) ≡ given_to k xs + times k (rounds_of s.view)
given-more k [] s = omega arith
given-more k (x ∷ xs) s = let h = given-more k xs s in omega arith

-- what one seat has after it took in another
pub joined-rounds : (k : ℕ) (v u : View) → times k (rounds_of (joint_view v u)) ≡ times k (rounds_of v) + times k (rounds_of u)
joined-rounds k v u = let a = times-append k v.rounds (v.given ++ rounds_of u) in let b = times-append k v.given (rounds_of u) in let c = times-append k v.rounds v.given in omega (arith, a, b, c)

pub joined-numbers : (k : ℕ) (v u : View) → times k (numbers_of (joint_view v u)) ≡ times k (numbers_of v) + times k (numbers_of u)
joined-numbers k v u = let a = times-append k (own v.number) (v.numbers ++ numbers_of u) in let b = times-append k v.numbers (numbers_of u) in let c = times-append k (own v.number) v.numbers in omega (arith, a, b, c)

pub some-of : (o : Option ℕ) → (o ≡ None → ⊥) → (n : ℕ) × (o ≡ Some n)
some-of None h = absurd (h refl)
some-of (Some n) h = (n, refl)

pub below-suc : (k n : ℕ) → below k (n + 1) ≡ below k n + bit (nat_eq k n)
below-suc = below-more

pub one-of : (k n : ℕ) (v : View) → v.number ≡ Some n → bit (nat_eq k n) ≤ times k (numbers_of v)
one-of k n v e = subst (λ (o : Option ℕ). bit (nat_eq k n) ≤ times k (own o ++ v.numbers)) (sym e) (omega arith)

-- all seats but the last, and the last
pub seats-less : (id : TableId) (k : ℕ) (xs : List SeatState) (s : SeatState) → SeatsFrom id k (xs ++ s ∷ []) → AreNumbered id k xs × (s.table ≡ id) × (s.view.number ≡ Some (k + length xs)) × (s.view.turn ≡ false) × (s.view.right ≡ Some (k + length xs + 1))
seats-less id k [] s h = (tt, h.0, h.1 ∙ ap Some (omega arith), h.2, h.3 ∙ ap Some (omega arith))
seats-less id k (x ∷ xs) s h = let t = seats-less id (k + 1) xs s h.4 in ((h.0, h.1, h.2, h.3 ∙ not-last xs, t.0), t.1, t.2 ∙ ap Some (omega arith), t.3, t.4 ∙ ap Some (omega arith))
  where
    not-last : (l : List SeatState) → right_of k (l ++ s ∷ []) ≡ None
    not-last [] = refl
    not-last (y ∷ ys) = refl

-- one seat has every number
pub covers : (n : ℕ) (m v : View) → m.number ≡ Some n → ((k : ℕ) → times k (numbers_of m) + below k n ≤ times k (numbers_of v)) → (k : ℕ) → k < 0 + n + 1 → 1 ≤ times k (numbers_of v)
covers n m v num all k lt = dite (dec_le n k) (λ (big : n ≤ k). let e : k ≡ n = omega (arith, big, lt) in let a = one-of k n m num in let b : bit (nat_eq k n) ≡ bit (nat_eq n n) = ap (λ x. bit (nat_eq x n)) e in let d = bit-same n in let f = all k in omega (arith, a, b, d, f))
    (λ less. let b = below-in k n (omega (arith, less)) in let f = all k in omega (arith, b, f))

abbrev pub round_or : {T : Type 0} → (T → ℕ) → Option T → ℕ
round_or round None = 0
round_or round (Some x) = round x
