-- What the seats of one table know, when one of them changes.
use Rattle.std.proofs.Common.{◌≡◌, ◌≢◌, ℕ, ◌<◌, ◌≤◌, Bool, true, false, true≢false, List, [], ◌∷◌, ◌++◌, set, refl, sym, ap, subst, arith, Option, Some, None, ⊎_elim, ne_eqb}
use Rattle.std.specs.Prelude.{if◌then◌else◌}
use mathlib.Core.Option.{some}
use lib.ListN.{get_elem?}
use Rattle.atomic_table.proofs.Lists.{at_set}
use Rattle.turn_table.specs.declared.view.View.{View}
use Rattle.turn_table.specs.Count.{bit, times, below, total}
use Rattle.turn_table.specs.Rule.{thread_of, own, is_some, numbers_of, Fits, number_or, either_right}
use Rattle.turn_table.proofs.Totals.{total-two, bit-same, below-most}

pub fits-set : (r h w : ℕ) (views : List View) (id : ℕ) (new : View) → ((j : ℕ) (u : View) → j ≢ id → get_elem? views j ≡ some u → Fits r h w u) → Fits r h w new → (j : ℕ) (u : View) → get_elem? (set views id new) j ≡ some u → Fits r h w u
fits-set r h w views id new others mine j u e =
    ⊎_elim (λ (t : (j ≡ id) × (new ≡ u)). subst (Fits r h w) t.1 mine) (λ (t : (j ≢ id) × (get_elem? views j ≡ some u)). others j u t.0 t.1) (at_set views id j new u e)

pub bit-true : (b : Bool) → 0 < bit b → b ≡ true
bit-true true h = refl
bit-true false h = absurd (omega arith)

pub one-number : (v : View) (n : ℕ) → v.number ≡ Some n → 1 ≤ times n (numbers_of v)
one-number v n e = subst (λ (o : Option ℕ). 1 ≤ times n (own o ++ v.numbers)) (sym e) (let b = bit-same n in omega arith)

pub some-number : (v : View) (n : ℕ) → v.number ≡ Some n → numbers_of v ≡ [] → ⊥
some-number v n e gone = let one = one-number v n e in let z : times n (numbers_of v) ≡ 0 = ap (times n) gone in absurd (omega arith)

-- no two views have one number
pub apart : (views : List View) (w : ℕ) → ((k : ℕ) → total (λ (v : View). times k (numbers_of v)) views ≡ below k w) → (i j : ℕ) (u v : View) (n : ℕ) → i ≢ j → get_elem? views i ≡ some u → get_elem? views j ≡ some v → u.number ≡ Some n → v.number ≡ Some n → ⊥
apart views w sums i j u v n ne at bt nu nv =
    let a = total-two (λ (x : View). times n (numbers_of x)) views i j u v ne at bt in
    let b = one-number u n nu in let c = one-number v n nv in let d = sums n in let e = below-most n w in omega arith

pub thread-small : (h : ℕ) → h < 31 → thread_of h ≡ Some h
thread-small h lt = subst (λ (b : Bool). (if b then None else Some h) ≡ Some h) (sym (ne_eqb h 31 (λ e. absurd (omega arith)))) refl

pub some-number-injective : {m n : ℕ} → Some m ≡ Some n → m ≡ n
some-number-injective e = ap number_or e

pub right-none : (o : Option ℕ) → either_right o None ≡ o
right-none None = refl
right-none (Some n) = refl

pub no-number : {n : ℕ} → None ≡ Some n → ⊥
no-number e = true≢false (sym (ap is_some e))

pub rest-empty : (o : Option ℕ) (l : List ℕ) → own o ++ l ≡ [] → l ≡ []
rest-empty None l e = e
rest-empty (Some n) l e = let z : times n (n ∷ l) ≡ 0 = ap (times n) e in let b = bit-same n in absurd (omega arith)
