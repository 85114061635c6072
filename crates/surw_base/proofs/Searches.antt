-- What a search for an item with a given text finds.
use Rattle.std.proofs.Common.{◌≡◌, ℕ, zero, suc, Bool, true, false, cond, List, [], ◌∷◌, ◌++◌, map, Option, Some, None, IsSome, IfSome, is_some, slice_get, refl, ap, sym, subst, ◌∙◌}
use Rattle.std.proofs.lemmas.Option.{none-some, same_Some}
use Rattle.std.proofs.lemmas.Bool.{false≢true}
use Rattle.std.specs.List.{find}

here-or-behind : {A : Type 0} (test : A → Bool) (y x : A) (rest : Option A) (b : Bool) → test y ≡ b → (rest ≡ Some x → test x ≡ true) → cond b (Some y) rest ≡ Some x → test x ≡ true
here-or-behind test y x rest true passes behind is = subst (λ z. test z ≡ true) (same_Some y x is) passes
here-or-behind test y x rest false passes behind is = behind is

-- what is found passes the test
pub found-passes : {A : Type 0} (test : A → Bool) (xs : List A) (x : A) → find test xs ≡ Some x → test x ≡ true
found-passes test [] x is = absurd (none-some x is)
found-passes test (y ∷ ys) x is = here-or-behind test y x (find test ys) (test y) refl (found-passes test ys x) is

some-here : {A : Type 0} (b : Bool) (y : A) (rest : Option A) → b ≡ true → IsSome (cond b (Some y) rest)
some-here true y rest is = refl
some-here false y rest is = absurd (false≢true is)

some-behind : {A : Type 0} (b : Bool) (y : A) (rest : Option A) → IsSome rest → IsSome (cond b (Some y) rest)
some-behind true y rest some = refl
some-behind false y rest some = some

-- an item at a place that passes is found, or one before it
pub found-at : {A : Type 0} (test : A → Bool) (xs : List A) (k : ℕ) (x : A) → slice_get xs k ≡ Some x → test x ≡ true → IsSome (find test xs)
found-at test [] k x at passes = absurd (none-some x at)
found-at test (y ∷ ys) zero x at passes = some-here (test y) y (find test ys) (ap test (same_Some y x at) ∙ passes)
found-at test (y ∷ ys) (suc k) x at passes = some-behind (test y) y (find test ys) (found-at test ys k x at passes)

-- likewise of a list that another is made of
pub found-map : {A B : Type 0} (test : B → Bool) (make : A → B) (xs : List A) (k : ℕ) (x : A) → slice_get xs k ≡ Some x → test (make x) ≡ true → IsSome (find test (map make xs))
found-map test make [] k x at passes = absurd (none-some x at)
found-map test make (y ∷ ys) zero x at passes = some-here (test (make y)) (make y) (find test (map make ys)) (ap (λ z. test (make z)) (same_Some y x at) ∙ passes)
found-map test make (y ∷ ys) (suc k) x at passes = some-behind (test (make y)) (make y) (find test (map make ys)) (found-map test make ys k x at passes)

left-or-behind : {A : Type 0} (test : A → Bool) (x : A) (b : Bool) (few more : Option A) → (IsSome few → IsSome more) → IsSome (cond b (Some x) few) → IsSome (cond b (Some x) more)
left-or-behind test x true few more h some = refl
left-or-behind test x false few more h some = h some

pub found-left : {A : Type 0} (test : A → Bool) (xs ys : List A) → IsSome (find test xs) → IsSome (find test (xs ++ ys))
found-left test [] ys some = absurd (false≢true some)
found-left test (x ∷ xs) ys some = left-or-behind test x (test x) (find test xs) (find test (xs ++ ys)) (found-left test xs ys) some

pub found-right : {A : Type 0} (test : A → Bool) (xs ys : List A) → IsSome (find test ys) → IsSome (find test (xs ++ ys))
found-right test [] ys some = some
found-right test (x ∷ xs) ys some = some-behind (test x) x (find test (xs ++ ys)) (found-right test xs ys some)

none-or-some : {A : Type 0} (answer result : Option A) → result ≡ None → IfSome answer (λ x. IsSome result) → answer ≡ None
none-or-some None result none found = refl
none-or-some (Some x) result none found = absurd (false≢true (sym (ap is_some none) ∙ found))

search-or-none : {A : Type 0} (test : A → Bool) (xs : List A) (answer result : Option A) → find test xs ≡ result → IfSome answer (λ x. IsSome (find test xs))
    → ((x : A) → test x ≡ true → answer ≡ Some x) → answer ≡ find test xs
search-or-none test xs answer (Some x) is found only = only x (found-passes test xs x is) ∙ sym is
search-or-none test xs answer None is found only = none-or-some answer (find test xs) is found ∙ sym is

-- a reader that answers what has the text, and nothing where nothing has it, answers what the search finds
pub read-found : {A : Type 0} (test : A → Bool) (xs : List A) (answer : Option A) → IfSome answer (λ x. IsSome (find test xs))
    → ((x : A) → test x ≡ true → answer ≡ Some x) → answer ≡ find test xs
read-found test xs answer found only = search-or-none test xs answer (find test xs) refl found only
