-- The threads that can go on, and numbers that are kept to them.
use Rattle.std.proofs.Common.{◌≡◌, ℕ, zero, suc, ◌+◌, ◌<◌, ◌≤◌, true, false, cond, IsTrue, List, [], ◌∷◌, length, get_or, take, sum, refl, ap, sym, subst, ◌∙◌, inl, inr, arith}
use Rattle.std.proofs.lemmas.Bool.{false≢true, cases_lt, cases_Bool, cond-true, cond-false}
use Rattle.std.proofs.lemmas.List.{get_or_past, take_all}
use Rattle.std.proofs.lemmas.List.Sums.{sum_by-cons, sum_by_more}
use Rattle.std.specs.List.{count_by}
use Rattle.draw_split.specs.Bag.{pick}
use Rattle.draw_split.proofs.Bag.{IsAt, pick-at, placed, at-below, listed}
use Rattle.walk_rules.specs.Seen.{is_able, seen_of, able_threads, kept_to_able}
use Rattle.walk_rules.specs.declared.seen.Seen.{Seen}
use Rattle.walk_rules.specs.declared.seen.Seen.TheVariants.{Over, Held, Able}
use Rattle.walk_rules.proofs.PassingThreads.{length-more, passing_from, passing-all}

-- the threads that can go on, where the first thread has this number
abbrev pub able_from : ℕ → List Seen → List ℕ
able_from = passing_from (λ thread seen. is_able seen)

pub able-threads : (view : List Seen) → able_threads view ≡ able_from 0 view
unfolding able_threads
able-threads view = passing-all (λ thread seen. is_able seen) view

length-able_from : (first : ℕ) (view : List Seen) → length (able_from first view) ≡ count_by is_able view
length-able_from first [] = refl
length-able_from first (seen ∷ view) =
    length-more (is_able seen) first (able_from (first + 1) view)
    ∙ ap (λ n. cond (is_able seen) 1 0 + n) (length-able_from (first + 1) view)
    ∙ sym (sum_by-cons (λ s. cond (is_able s) 1 0) seen view)

-- as many threads can go on as are counted
pub length-able : (view : List Seen) → length (able_threads view) ≡ count_by is_able view
length-able view = ap length (able-threads view) ∙ length-able_from 0 view

-- a thread that can go on, where the first thread has this number
record IsAbleFrom (first : ℕ) (view : List Seen) (thread : ℕ) : Type 0 where
  place : ℕ
  there : thread ≡ first + place
  within : place < length view
  able : IsTrue (is_able (seen_of view place))

one-more : (first : ℕ) (seen : Seen) (view : List Seen) (thread : ℕ) → IsAbleFrom (first + 1) view thread → IsAbleFrom first (seen ∷ view) thread
one-more first seen view thread is =
    record { place = suc is.place; there = is.there ∙ omega arith; within = omega (arith, is.within); able = is.able }

able_from-is : (first : ℕ) (view : List Seen) (d : ℕ) → d < length (able_from first view) → IsAbleFrom first view (get_or (able_from first view) d 0)
able_from-is first [] d lt = absurd (omega arith)
able_from-is first (Over ∷ view) d lt = one-more first Over view (get_or (able_from (first + 1) view) d 0) (able_from-is (first + 1) view d lt)
able_from-is first (Held chosen ∷ view) d lt = one-more first (Held chosen) view (get_or (able_from (first + 1) view) d 0) (able_from-is (first + 1) view d lt)
able_from-is first (Able chosen ∷ view) zero lt = record { place = 0; there = omega arith; within = omega arith; able = refl }
able_from-is first (Able chosen ∷ view) (suc d) lt =
    one-more first (Able chosen) view (get_or (able_from (first + 1) view) d 0) (able_from-is (first + 1) view d (omega arith))

able-is : (view : List Seen) (d : ℕ) → d < length (able_threads view) → IsAbleFrom 0 view (get_or (able_threads view) d 0)
able-is view d lt =
    let all = able-threads view in
    subst (λ (threads : List ℕ). IsAbleFrom 0 view (get_or threads d 0)) (sym all)
    (able_from-is 0 view d (subst (λ (threads : List ℕ). d < length threads) all lt))

-- each of the threads that can go on can do so
pub able-place : (view : List Seen) (d : ℕ) → d < length (able_threads view) → IsTrue (is_able (seen_of view (get_or (able_threads view) d 0)))
able-place view d lt =
    let is = able-is view d lt in
    let same : is.place ≡ get_or (able_threads view) d 0 = sym (is.there ∙ omega arith) in
    subst (λ (thread : ℕ). IsTrue (is_able (seen_of view thread))) same is.able

-- and is one of the threads
pub able-place-within : (view : List Seen) (d : ℕ) → d < length (able_threads view) → get_or (able_threads view) d 0 < length view
able-place-within view d lt = let is = able-is view d lt in omega (arith, is.there, is.within)

-- a thread that can go on is one of the threads
pub able-listed : (view : List Seen) (thread : ℕ) → IsTrue (is_able (seen_of view thread)) → thread < length view
able-listed view thread able = elim (cases_lt thread (length view)) [
  | inl below ↦ below
  | inr past ↦ absurd (false≢true (ap is_able (sym (get_or_past view thread Over past)) ∙ able))
]

-- ---- numbers kept to the threads that can go on

pub length-kept : (left : List ℕ) (view : List Seen) → length (kept_to_able left view) ≡ length left
unfolding kept_to_able
length-kept [] view = refl
length-kept (number ∷ numbers) [] = ap suc (length-kept numbers [])
length-kept (number ∷ numbers) (seen ∷ view) = ap suc (length-kept numbers view)

-- the number kept for a thread
pub kept-index : (left : List ℕ) (view : List Seen) (thread : ℕ)
    → get_or (kept_to_able left view) thread 0 ≡ cond (is_able (seen_of view thread)) (get_or left thread 0) 0
unfolding kept_to_able
kept-index [] view thread = elim (is_able (seen_of view thread)) as (λ able. ◌≡◌ {A = ℕ} 0 (cond able 0 0)) [ true ↦ refl | false ↦ refl ]
kept-index (number ∷ numbers) [] zero = refl
kept-index (number ∷ numbers) [] (suc thread) = kept-index numbers [] thread
kept-index (number ∷ numbers) (seen ∷ view) zero = refl
kept-index (number ∷ numbers) (seen ∷ view) (suc thread) = kept-index numbers view thread

-- a thread for which a number is kept can go on and has that number left
pub kept-able : (left : List ℕ) (view : List Seen) (thread : ℕ) → 0 < get_or (kept_to_able left view) thread 0
    → IsTrue (is_able (seen_of view thread)) × (0 < get_or left thread 0)
kept-able left view thread some =
    let is = kept-index left view thread in
    elim (cases_Bool (is_able (seen_of view thread))) [
      | inl can ↦ (can, omega (arith, is ∙ cond-true (is_able (seen_of view thread)) (get_or left thread 0) 0 can))
      | inr cannot ↦ absurd (omega (arith, is ∙ cond-false (is_able (seen_of view thread)) (get_or left thread 0) 0 cannot))
    ]

kept-some : (left : List ℕ) (view : List Seen) (draw : ℕ) → draw < sum (kept_to_able left view)
    → 0 < get_or (kept_to_able left view) (pick (kept_to_able left view) draw) 0
kept-some left view draw lt = let at = placed (kept_to_able left view) draw lt in omega (arith, at.within)

-- a place of the bag of what is kept is that of a thread that can go on
pub kept-pick : (left : List ℕ) (view : List Seen) (draw : ℕ) → draw < sum (kept_to_able left view)
    → IsTrue (is_able (seen_of view (pick (kept_to_able left view) draw)))
kept-pick left view draw lt = (kept-able left view (pick (kept_to_able left view) draw) (kept-some left view draw lt)).0

-- with a number left
pub kept-pick-left : (left : List ℕ) (view : List Seen) (draw : ℕ) → draw < sum (kept_to_able left view)
    → 0 < get_or left (pick (kept_to_able left view) draw) 0
kept-pick-left left view draw lt = (kept-able left view (pick (kept_to_able left view) draw) (kept-some left view draw lt)).1

-- and one of the threads
pub kept-pick-within : (left : List ℕ) (view : List Seen) (draw : ℕ) → draw < sum (kept_to_able left view)
    → pick (kept_to_able left view) draw < length view
kept-pick-within left view draw lt = able-listed view (pick (kept_to_able left view) draw) (kept-pick left view draw lt)

pub kept-pick-listed : (left : List ℕ) (view : List Seen) (draw : ℕ) → draw < sum (kept_to_able left view)
    → pick (kept_to_able left view) draw < length left
kept-pick-listed left view draw lt = listed left (pick (kept_to_able left view) draw) 0 (kept-pick-left left view draw lt)

-- where a thread that can go on has a number left, some number is kept
pub kept-positive : (left : List ℕ) (view : List Seen) (thread : ℕ) → IsTrue (is_able (seen_of view thread)) → 0 < get_or left thread 0
    → 0 < sum (kept_to_able left view)
kept-positive left view thread able some =
    let kept = kept_to_able left view in
    let is : get_or kept thread 0 ≡ get_or left thread 0 = kept-index left view thread ∙ cond-true (is_able (seen_of view thread)) (get_or left thread 0) 0 able in
    let at : IsAt kept (sum (take thread kept)) thread 0 = record { within = omega (arith, is); there = omega arith } in
    omega (arith, at-below at)

-- ---- the way through the threads with the numbers that are kept

-- the next thread's number
module _ (left : List ℕ) (view : List Seen) (thread : ℕ) (lt : thread < length left) where
  kept-listed : thread < length (kept_to_able left view)
  kept-listed = omega (arith, lt, length-kept left view)

  kept-next : sum (take (thread + 1) (kept_to_able left view)) ≡ sum (take thread (kept_to_able left view)) + get_or (kept_to_able left view) thread 0
  kept-next = let listed = kept-listed in omega (arith, sum_by_more (λ x. x) (kept_to_able left view) thread 0 listed)

  -- it is kept where the thread can go on
  pub kept-more : IsTrue (is_able (seen_of view thread)) → sum (take (thread + 1) (kept_to_able left view)) ≡ sum (take thread (kept_to_able left view)) + get_or left thread 0
  kept-more able =
      let here = kept-index left view thread ∙ cond-true (is_able (seen_of view thread)) (get_or left thread 0) 0 able in
      let next = kept-next in
      omega (arith, here, next)

  -- and else nothing is
  pub kept-same : is_able (seen_of view thread) ≡ false → sum (take (thread + 1) (kept_to_able left view)) ≡ sum (take thread (kept_to_able left view))
  kept-same cannot =
      let here = kept-index left view thread ∙ cond-false (is_able (seen_of view thread)) (get_or left thread 0) 0 cannot in
      let next = kept-next in
      omega (arith, here, next)

  -- a place within it is this thread's
  pub kept-found : IsTrue (is_able (seen_of view thread)) → (rest place : ℕ) → rest + sum (take thread (kept_to_able left view)) ≡ place
      → rest < get_or left thread 0 → pick (kept_to_able left view) place ≡ thread
  kept-found able rest place there within =
      let here = kept-index left view thread ∙ cond-true (is_able (seen_of view thread)) (get_or left thread 0) 0 able in
      let at : IsAt (kept_to_able left view) place thread rest = record { within = omega (arith, here, within); there = there } in
      pick-at at

-- all of them
pub kept-all : (left : List ℕ) (view : List Seen) (thread : ℕ) → length left ≤ thread → sum (take thread (kept_to_able left view)) ≡ sum (kept_to_able left view)
kept-all left view thread past = ap sum (take_all thread (kept_to_able left view) (omega (arith, past, length-kept left view)))

-- what is known of a pick
pub ruleset picks = (able-place, kept-pick)
