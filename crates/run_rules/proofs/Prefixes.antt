-- What holds of each entry of a journal and those before it.
use Rattle.std.proofs.Common.{◌≡◌, ℕ, zero, suc, ◌+◌, ◌<◌, ◌≤◌, List, [], ◌∷◌, ◌++◌, ◌⊎◌, length, take, Some, refl, ap, sym, subst, ◌∙◌, inl, inr, arith}
use Rattle.std.proofs.Math.Seq.{take-length}
use Rattle.std.proofs.lemmas.List.{take-append-le, take-take, take_at, take_more}
use Rattle.std.proofs.lemmas.Option.{none-some, same_Some, slice_get_cases, slice_get_within}
use Rattle.std.specs.List.{slice_get}

-- an item of a list, after those before it
pub record IsNext {X : Type 0} (xs : List X) (k : ℕ) : Type 0 where
  pub item : X
  pub there : slice_get xs k ≡ Some item
  pub cut : take (k + 1) xs ≡ take k xs ++ item ∷ []

pub next-at : {X : Type 0} (xs : List X) (k : ℕ) → k < length xs → IsNext xs k
next-at xs k lt = elim (slice_get_cases xs k).1 [
  | inl at ↦ record {
    item = at.0;
    there = at.2;
    cut = take_more xs k at.0 lt ∙ ap (λ x. take k xs ++ x ∷ []) at.3;
  }
  | inr past ↦ absurd (omega (arith, lt, past.0))
]

-- an item of a prefix is the item of the whole, within the prefix
pub prefix-item : {X : Type 0} (k : ℕ) (xs : List X) (j : ℕ) (x : X) → slice_get (take k xs) j ≡ Some x → (slice_get xs j ≡ Some x) × (j < k)
prefix-item zero xs j x at = absurd (none-some x at)
prefix-item (suc k) [] j x at = absurd (none-some x at)
prefix-item (suc k) (y ∷ xs) zero x at = (at, omega arith)
prefix-item (suc k) (y ∷ xs) (suc j) x at = let rest = prefix-item k xs j x at in (rest.0, omega (arith, rest.1))

-- an item of a list with one more is an item of the list, or the one more
pub more-item : {X : Type 0} (xs : List X) (y : X) (k : ℕ) (x : X) → slice_get (xs ++ y ∷ []) k ≡ Some x
    → (slice_get xs k ≡ Some x) ⊎ ((y ≡ x) × (k ≡ length xs))
more-item [] y zero x at = inr (same_Some y x at, refl)
more-item [] y (suc k) x at = absurd (none-some x at)
more-item (z ∷ xs) y zero x at = inl at
more-item (z ∷ xs) y (suc k) x at = elim (more-item xs y k x at) [ inl before ↦ inl before | inr last ↦ inr (last.0, ap suc last.1) ]

-- it holds of each item, with those before it
abbrev pub AtEach : {X : Type 0} → (List X → X → Type 0) → List X → Type 0
AtEach {X} P xs = (k : ℕ) (x : X) → slice_get xs k ≡ Some x → P (take k xs) x

pub each-none : {X : Type 0} (P : List X → X → Type 0) → AtEach P []
each-none P k x at = absurd (none-some x at)

pub each-prefix : {X : Type 0} (P : List X → X → Type 0) (xs : List X) (k : ℕ) → AtEach P xs → AtEach P (take k xs)
each-prefix P xs k each j x at =
    let whole = prefix-item k xs j x at in
    subst (λ prefix. P prefix x) (sym (take-take j k xs (omega (arith, whole.1)))) (each j x whole.0)

pub each-more : {X : Type 0} (P : List X → X → Type 0) (xs : List X) (x : X) → AtEach P xs → P xs x → AtEach P (xs ++ x ∷ [])
each-more P xs x each here k y at = elim (more-item xs x k y at) [
  | inl before ↦
      subst (λ prefix. P prefix y) (sym (take-append-le k xs (x ∷ []) (omega (arith, slice_get_within xs k y before)))) (each k y before)
  | inr last ↦
      subst (λ prefix. P prefix y) (sym (take_at xs (x ∷ []) k (sym last.1))) (subst (λ z. P xs z) last.0 here)
]

-- what holds of no items, and with each item of a list more, holds of each prefix of the list
pub at-prefix : {X : Type 0} (P : List X → Type 0) (xs : List X) → P []
    → ((k : ℕ) (x : X) → slice_get xs k ≡ Some x → P (take k xs) → P (take k xs ++ x ∷ []))
    → (k : ℕ) → k ≤ length xs → P (take k xs)
at-prefix P xs none more zero within = none
at-prefix P xs none more (suc k) within =
    let next : IsNext xs k = next-at xs k (omega (arith, within)) in
    let one : k + 1 ≡ suc k = omega arith in
    subst P (sym next.cut ∙ ap (λ n. take n xs) one)
    (more k next.item next.there (at-prefix P xs none more k (omega (arith, within))))

-- and of the list
pub at-whole : {X : Type 0} (P : List X → Type 0) (xs : List X) → P []
    → ((k : ℕ) (x : X) → slice_get xs k ≡ Some x → P (take k xs) → P (take k xs ++ x ∷ [])) → P xs
at-whole P xs none more = subst P (take-length xs) (at-prefix P xs none more (length xs) (omega arith))
