-- Counts and tests of lists.
use Rattle.std.proofs.Common.{◌≡◌, ◌≢◌, ℕ, zero, suc, ◌+◌, ◌<◌, Bool, true, false, not, ◌||◌, eqb, cond, List, [], ◌∷◌, length, get_or, set, refl, ap, sym, ◌∙◌, arith}
use Rattle.std.proofs.lemmas.Bool.{eqb-true, eq-eqb, false≢true, ne_eqb}
use Rattle.std.proofs.lemmas.List.Sums.{sum_by-cons, sum_by-set}
use Rattle.std.specs.List.{count_by, list_any}

pub positive : (n : ℕ) → n ≢ 0 → 0 < n
positive zero some = absurd (some refl)
positive (suc n) some = omega arith

not-true : (b : Bool) → true ≡ not b → b ≡ false
not-true false e = refl
not-true true e = absurd (false≢true (sym e))

not-false : (b : Bool) → false ≡ not b → b ≡ true
not-false true e = refl
not-false false e = absurd (false≢true e)

count-head : {X : Type 0} (p : X → Bool) (x : X) (xs : List X) (b : Bool) → p x ≡ b → count_by p (x ∷ xs) ≡ cond b (1 + count_by p xs) (count_by p xs)
count-head p x xs true is = sum_by-cons (λ y. cond (p y) 1 0) x xs ∙ ap (λ (b : Bool). cond {A = ℕ} b 1 0 + count_by p xs) is
count-head p x xs false is = sum_by-cons (λ y. cond (p y) 1 0) x xs ∙ ap (λ (b : Bool). cond {A = ℕ} b 1 0 + count_by p xs) is ∙ omega arith

any-head : {X : Type 0} (p : X → Bool) (x : X) (xs : List X) (b : Bool) → p x ≡ b → list_any p (x ∷ xs) ≡ cond b true (list_any p xs)
any-head p x xs true is = ap (λ (b : Bool). b || list_any p xs) is
any-head p x xs false is = ap (λ (b : Bool). b || list_any p xs) is

any-one : {X : Type 0} (p : X → Bool) (x : X) (xs : List X) (b : Bool) → p x ≡ b
    → eqb (count_by p xs) 0 ≡ not (list_any p xs) → eqb (count_by p (x ∷ xs)) 0 ≡ not (list_any p (x ∷ xs))
any-one p x xs true is rest =
    ap (λ n. eqb n 0) (count-head p x xs true is) ∙ ne_eqb (1 + count_by p xs) 0 (λ e. absurd (omega (arith, e))) ∙ sym (ap not (any-head p x xs true is))
any-one p x xs false is rest = ap (λ n. eqb n 0) (count-head p x xs false is) ∙ rest ∙ sym (ap not (any-head p x xs false is))

-- a count is 0 exactly where none passes
pub count-any : {X : Type 0} (p : X → Bool) (xs : List X) → eqb (count_by p xs) 0 ≡ not (list_any p xs)
count-any p [] = refl
count-any p (x ∷ xs) = any-one p x xs (p x) refl (count-any p xs)

pub count-none : {X : Type 0} (p : X → Bool) (xs : List X) → list_any p xs ≡ false → count_by p xs ≡ 0
count-none p xs none = eqb-true (count_by p xs) 0 (count-any p xs ∙ ap not none)

pub none-counted : {X : Type 0} (p : X → Bool) (xs : List X) → count_by p xs ≡ 0 → list_any p xs ≡ false
none-counted p xs nothing = not-true (list_any p xs) (sym (eq-eqb (count_by p xs) 0 nothing) ∙ count-any p xs)

pub some-counted : {X : Type 0} (p : X → Bool) (xs : List X) → count_by p xs ≢ 0 → list_any p xs ≡ true
some-counted p xs some = not-false (list_any p xs) (sym (ne_eqb (count_by p xs) 0 some) ∙ count-any p xs)

-- a place that passes is set to one that doesn't
pub count-set : {X : Type 0} (p : X → Bool) (xs : List X) (i : ℕ) (x d : X) → i < length xs → p (get_or xs i d) ≡ true → p x ≡ false
    → count_by p (set xs i x) + 1 ≡ count_by p xs
count-set p xs i x d within before now =
    let moved : count_by p (set xs i x) + cond (p (get_or xs i d)) 1 0 ≡ count_by p xs + cond (p x) 1 0 = sum_by-set (λ y. cond (p y) 1 0) xs i x d within in
    let one : cond (p (get_or xs i d)) 1 0 ≡ 1 = ap (λ (b : Bool). cond {A = ℕ} b 1 0) before in
    let none : cond (p x) 1 0 ≡ 0 = ap (λ (b : Bool). cond {A = ℕ} b 1 0) now in
    omega (arith, moved, one, none)

-- a place that doesn't pass is set to one that does
pub count-set_up : {X : Type 0} (p : X → Bool) (xs : List X) (i : ℕ) (x d : X) → i < length xs → p (get_or xs i d) ≡ false → p x ≡ true
    → count_by p (set xs i x) ≡ count_by p xs + 1
count-set_up p xs i x d within before now =
    let moved : count_by p (set xs i x) + cond (p (get_or xs i d)) 1 0 ≡ count_by p xs + cond (p x) 1 0 = sum_by-set (λ y. cond (p y) 1 0) xs i x d within in
    let one : cond (p x) 1 0 ≡ 1 = ap (λ (b : Bool). cond {A = ℕ} b 1 0) now in
    let none : cond (p (get_or xs i d)) 1 0 ≡ 0 = ap (λ (b : Bool). cond {A = ℕ} b 1 0) before in
    omega (arith, moved, one, none)

-- a place set twice
pub set-twice : {X : Type 0} (xs : List X) (i : ℕ) (x y : X) → set (set xs i x) i y ≡ set xs i y
set-twice [] i x y = refl
set-twice (z ∷ zs) zero x y = refl
set-twice (z ∷ zs) (suc i) x y = ap (λ rest. z ∷ rest) (set-twice zs i x y)
