-- The text of the first elements of a list, with one element more.
use Rattle.std.proofs.Common.{◌≡◌, ℕ, zero, suc, ◌+◌, ◌<◌, ◌≤◌, List, [], ◌∷◌, ◌++◌, length, take, Some, refl, ap, sym, ◌∙◌, arith, append-nil, append_assoc, zero-add}
use Rattle.std.proofs.lemmas.Grind.{flat_map-append}
use Rattle.std.proofs.lemmas.List.{take_more, take_all}
use Rattle.std.proofs.lemmas.List.FromFn.{length-enumerate_from}
use Rattle.std.proofs.lemmas.Option.{slice_get_within, get_or_from_slice_get}
use Rattle.std.specs.List.{slice_get, flat_map, enumerate_from, zip}

pub take-next : {X : Type 0} (xs : List X) (i : ℕ) (x : X) → slice_get xs i ≡ Some x → take (i + 1) xs ≡ take i xs ++ x ∷ []
take-next {X} xs i x here =
    take_more xs i x (slice_get_within xs i x here) ∙ ap (λ (y : X). take i xs ++ y ∷ []) (get_or_from_slice_get xs i x x here)

-- the text of one element more
pub text-next : {X : Type 0} (text : X → List ℕ) (xs : List X) (i : ℕ) (x : X) → slice_get xs i ≡ Some x
    → flat_map text (take (i + 1) xs) ≡ flat_map text (take i xs) ++ text x
text-next text xs i x here =
    ap (flat_map text) (take-next xs i x here)
    ∙ flat_map-append text (take i xs) (x ∷ [])
    ∙ ap (λ (l : List ℕ). flat_map text (take i xs) ++ l) (append-nil (text x))

numbered-from : {X : Type 0} (from : ℕ) (xs : List X) (i : ℕ) (x : X) → slice_get xs i ≡ Some x → slice_get (enumerate_from from xs) i ≡ Some (from + i, x)
numbered-from from [] i x here = cc here
numbered-from {X} from (y ∷ ys) zero x here = let here' : from ≡ from + 0 = omega arith in cc (here, here')
numbered-from {X} from (y ∷ ys) (suc i) x here =
    numbered-from (from + 1) ys i x here ∙ ap (λ (n : ℕ). Some (n, x)) (omega arith)

-- an element beside its number
pub numbered : {X : Type 0} (xs : List X) (i : ℕ) (x : X) → slice_get xs i ≡ Some x → slice_get (enumerate_from 0 xs) i ≡ Some (i, x)
numbered {X} xs i x here = numbered-from 0 xs i x here ∙ ap (λ (n : ℕ). Some (n, x)) (zero-add i)

-- all elements beside their numbers
pub numbered-all : {X : Type 0} (xs : List X) (n : ℕ) → length xs ≤ n → take n (enumerate_from 0 xs) ≡ enumerate_from 0 xs
numbered-all xs n past = take_all n (enumerate_from 0 xs) (omega (arith, length-enumerate_from 0 xs))

-- two elements at one place
pub paired : {X Y : Type 0} (xs : List X) (ys : List Y) (i : ℕ) (x : X) (y : Y) → slice_get xs i ≡ Some x → slice_get ys i ≡ Some y → slice_get (zip xs ys) i ≡ Some (x, y)
paired [] ys i x y one other = cc one
paired (v ∷ vs) [] i x y one other = cc other
paired (v ∷ vs) (w ∷ ws) zero x y one other = cc (one, other)
paired (v ∷ vs) (w ∷ ws) (suc i) x y one other = paired vs ws i x y one other

pairs-short : {X Y : Type 0} (xs : List X) (ys : List Y) → length (zip xs ys) ≤ length xs
pairs-short [] ys = omega arith
pairs-short (x ∷ xs) [] = omega arith
pairs-short (x ∷ xs) (y ∷ ys) = omega (arith, pairs-short xs ys)

-- all pairs
pub paired-all : {X Y : Type 0} (xs : List X) (ys : List Y) (n : ℕ) → length xs ≤ n → take n (zip xs ys) ≡ zip xs ys
paired-all xs ys n past = take_all n (zip xs ys) (omega (arith, pairs-short xs ys))

-- what is added to a text behind what was printed so far
pub added : (before so_far more all old new : List ℕ) → old ≡ before ++ so_far → new ≡ old ++ more → all ≡ so_far ++ more → new ≡ before ++ all
added before so_far more all old new was now next =
    now ∙ ap (λ (l : List ℕ). l ++ more) was ∙ append_assoc before so_far more ∙ ap (λ (l : List ℕ). before ++ l) (sym next)

-- and what it is then
pub onto : (before so_far more old : List ℕ) → old ≡ before ++ so_far → old ++ more ≡ before ++ (so_far ++ more)
onto before so_far more old was = ap (λ (l : List ℕ). l ++ more) was ∙ append_assoc before so_far more

-- there is an element at each place
pub record IsThere {X : Type 0} (xs : List X) (i : ℕ) : Type 0 where
  pub element : X
  pub here : slice_get xs i ≡ Some element

pub there : {X : Type 0} (xs : List X) (i : ℕ) → i < length xs → IsThere xs i
there [] i within = absurd (omega arith)
there (x ∷ xs) zero within = record { element = x; here = refl }
there (x ∷ xs) (suc i) within =
    let later = there xs i (omega arith) in
    record { element = later.element; here = later.here }
