-- Threads that are wrong, and the first number that passes a test.
use Rattle.std.proofs.Common.{◌≡◌, ◌≢◌, ℕ, zero, suc, ◌+◌, ◌&&◌, ◌<◌, Bool, cond, true, false, IsTrue, List, [], ◌∷◌, length, get_or, sum, Option, Some, None, refl, ap, sym, ◌∙◌, inl, inr, arith}
use Rattle.std.proofs.lemmas.Bool.{false≢true, cases_Bool, cases_eq, cond-true, cond-false, eqb-false}
use Rattle.std.proofs.lemmas.List.Elements.{All-get_or}
use Rattle.std.proofs.lemmas.List.FromFn.{get_or-range_with_len, length-range_with_len}
use Rattle.std.proofs.lemmas.Option.{none-some}
use Rattle.std.specs.List.{All, find, range_with_len}
use Rattle.std.specs.Option.{option_map}
use Rattle.walk_rules.specs.Seen.{is_able, is_announcing, is_chosen, seen_of, able_threads, kept_to_able}
use Rattle.walk_rules.specs.State.{WalkState}
use Rattle.walk_rules.specs.Strategies.{counts_down}
use Rattle.walk_rules.specs.Urw.{urw_bound}
use Rattle.walk_rules.specs.Walk.{is_wrong, is_wrong_at, counted, first_wrong, wrong_at, wrong_by, wrong_of, AreChosen, NoOtherIsWrong}
use Rattle.walk_rules.specs.declared.seen.Seen.{Seen}
use Rattle.walk_rules.specs.declared.seen.Seen.TheVariants.{Over, Held, Able}
use Rattle.walk_rules.proofs.AbleThreads.{able-place, able-place-within, kept-positive}

-- no number before it passes
find-at : (test : ℕ → Bool) (first n k : ℕ) → k < n → ((j : ℕ) → j < k → test (first + j) ≡ false) → test (first + k) ≡ true
    → find test (range_with_len first n) ≡ Some (first + k)
find-at test first zero k lt before here = absurd (omega arith)
find-at test first (suc n) zero lt before here =
    let same : first ≡ first + 0 = omega arith in
    cond-true (test first) (Some first) (find test (range_with_len (first + 1) n)) (ap test same ∙ here) ∙ ap Some same
find-at test first (suc n) (suc k) lt before here =
    let same : first ≡ first + 0 = omega arith in
    let next : first + 1 + k ≡ first + suc k = omega arith in
    cond-false (test first) (Some first) (find test (range_with_len (first + 1) n)) (ap test same ∙ before 0 (omega arith))
    ∙ find-at test (first + 1) n k (omega arith)
    (λ j lt. let more : first + 1 + j ≡ first + suc j = omega arith in ap test more ∙ before (suc j) (omega arith)) (ap test next ∙ here)
    ∙ ap Some next

-- nothing is found where nothing of a list passes
pub find-none : (test : ℕ → Bool) (xs : List ℕ) → ((k : ℕ) → k < length xs → test (get_or xs k 0) ≡ false) → find test xs ≡ None
find-none test [] each = refl
find-none test (x ∷ xs) each =
    cond-false (test x) (Some x) (find test xs) (each 0 (omega arith)) ∙ find-none test xs (λ k lt. each (suc k) (omega arith))

first-fails : (test : ℕ → Bool) (first n : ℕ) → find test (range_with_len first (suc n)) ≡ None → test first ≡ false
first-fails test first n none = elim (cases_Bool (test first)) [
  | inl passes ↦ absurd (none-some first (sym none ∙ cond-true (test first) (Some first) (find test (range_with_len (first + 1) n)) passes))
  | inr fails ↦ fails
]

-- then each fails
none-passes : (test : ℕ → Bool) (first n : ℕ) → find test (range_with_len first n) ≡ None → (j : ℕ) → j < n → test (first + j) ≡ false
none-passes test first zero none j lt = absurd (omega arith)
none-passes test first (suc n) none zero lt =
    let same : first + 0 ≡ first = omega arith in ap test same ∙ first-fails test first n none
none-passes test first (suc n) none (suc j) lt =
    let next : first + suc j ≡ first + 1 + j = omega arith in
    let rest = sym (cond-false (test first) (Some first) (find test (range_with_len (first + 1) n)) (first-fails test first n none)) ∙ none in
    ap test next ∙ none-passes test (first + 1) n rest j (omega arith)

-- the least number below another that passes, and where none does
pub first-passes : (test : ℕ → Bool) (n k : ℕ) → k < n → ((j : ℕ) → j < k → test j ≡ false) → test k ≡ true → find test (range_with_len 0 n) ≡ Some k
first-passes test n k lt before here =
    let same : 0 + k ≡ k = omega arith in
    find-at test 0 n k lt
    (λ j below. let as_is : 0 + j ≡ j = omega arith in ap test as_is ∙ before j below)
    (ap test same ∙ here)
    ∙ ap Some same

pub passes-none : (test : ℕ → Bool) (n : ℕ) → ((j : ℕ) → j < n → test j ≡ false) → find test (range_with_len 0 n) ≡ None
passes-none test n none =
    find-none test (range_with_len 0 n) (λ j lt.
    let within : j < n = omega (arith, lt, length-range_with_len 0 n) in
    let as_is : get_or (range_with_len 0 n) j 0 ≡ j = get_or-range_with_len 0 n j 0 within ∙ omega arith in
    ap test as_is ∙ none j within)

-- where none does each fails
pub none-below : (test : ℕ → Bool) (n k : ℕ) → find test (range_with_len 0 n) ≡ None → k < n → test k ≡ false
none-below test n k none lt =
    let as_is : k ≡ 0 + k = omega arith in
    ap test as_is ∙ none-passes test 0 n none k lt

-- the least thread that is wrong
pub first-wrong-at : (left : List ℕ) (view : List Seen) (thread : ℕ) → thread < length view
    → ((j : ℕ) → j < thread → is_wrong_at left view j ≡ false) → is_wrong_at left view thread ≡ true → first_wrong left view ≡ Some thread
first-wrong-at left view thread lt before here = first-passes (is_wrong_at left view) (length view) thread lt before here

-- no thread is wrong
pub first-wrong-none : (left : List ℕ) (view : List Seen) → ((j : ℕ) → j < length view → is_wrong_at left view j ≡ false) → first_wrong left view ≡ None
first-wrong-none left view none = passes-none (is_wrong_at left view) (length view) none

-- what the pass over the threads finds
pub ruleset firsts = (first-wrong-at, first-wrong-none)

-- where none is found no thread is wrong
pub none-wrong : (left : List ℕ) (view : List Seen) → first_wrong left view ≡ None → (thread : ℕ) → thread < length view → is_wrong_at left view thread ≡ false
none-wrong left view none thread lt = none-below (is_wrong_at left view) (length view) thread none lt

-- ---- one thread alone

-- where no other thread is wrong the least one is this, if there is one
first-alone : (left : List ℕ) (view : List Seen) (thread : ℕ) → thread < length view
    → ((other : ℕ) → other < length view → other ≢ thread → is_wrong_at left view other ≡ false)
    → first_wrong left view ≡ cond (is_wrong_at left view thread) (Some thread) None
first-alone left view thread lt others = elim (cases_Bool (is_wrong_at left view thread)) [
  | inl wrong ↦
      first-wrong-at left view thread lt (λ other below. others other (omega (arith, lt, below)) (λ e. omega (arith, e, below))) wrong
      ∙ sym (cond-true (is_wrong_at left view thread) (Some thread) None wrong)
  | inr right ↦
      first-wrong-none left view (λ other below. elim (cases_eq other thread) [
        | inl same ↦ ap (is_wrong_at left view) same ∙ right
        | inr differ ↦ others other below differ
      ])
      ∙ sym (cond-false (is_wrong_at left view thread) (Some thread) None right)
]

none-if : {A : Type 0} (b : Bool) (x : A) → cond b (Some x) None ≡ None → b ≡ false
none-if true x none = absurd (none-some x (sym none))
none-if false x none = refl

map-if : {A B : Type 0} (f : A → B) (b : Bool) (x : A) → option_map f (cond b (Some x) None) ≡ cond b (Some (f x)) None
map-if f true x = refl
map-if f false x = refl

alone-by : (counting : Bool) (counts left : List ℕ) (view : List Seen) (thread : ℕ) → thread < length view
    → ((other : ℕ) → other < length view → other ≢ thread → cond (counting && is_wrong_at left view other) (Some (counted counts left other)) None ≡ None)
    → wrong_by counting counts left view ≡ cond (counting && is_wrong_at left view thread) (Some (counted counts left thread)) None
alone-by true counts left view thread lt others =
    ap (option_map (counted counts left))
    (first-alone left view thread lt (λ other below differ. none-if (is_wrong_at left view other) (counted counts left other) (others other below differ)))
    ∙ map-if (counted counts left) (is_wrong_at left view thread) thread
alone-by false counts left view thread lt others = refl

-- so what is found of it is what is found of all
pub wrong-alone : (walk : WalkState) (view : List Seen) (thread : ℕ) → thread < length view → NoOtherIsWrong walk view thread
    → wrong_of walk view ≡ wrong_at walk view thread
wrong-alone walk view thread lt others = alone-by (counts_down walk.rule) walk.counts walk.left view thread lt others

able-announces : (seen : Seen) → IsTrue (is_able seen) → IsTrue (is_announcing seen)
able-announces Over able = able
able-announces (Held chosen) able = refl
able-announces (Able chosen) able = refl

-- a thread with a selected event that isn't wrong has a number left
left-positive : (left : ℕ) (seen : Seen) → IsTrue (is_chosen seen) → is_wrong left seen ≡ false → 0 < left
left-positive left Over chosen right = absurd (false≢true chosen)
left-positive left (Held true) chosen right = let some = eqb-false left 0 right in omega arith
left-positive left (Held false) chosen right = absurd (false≢true chosen)
left-positive left (Able true) chosen right = let some = eqb-false left 0 right in omega arith
left-positive left (Able false) chosen right = absurd (false≢true chosen)

-- where every event is selected, some thread can go on and none is wrong, some number is kept
pub kept-somewhere : (left : List ℕ) (view : List Seen) → 0 < length (able_threads view) → first_wrong left view ≡ None
    → All (λ seen. IsTrue (is_announcing seen) → IsTrue (is_chosen seen)) view → 0 < sum (kept_to_able left view)
kept-somewhere left view some none chosen =
    let thread : ℕ = get_or (able_threads view) 0 0 in
    let within : thread < length view = able-place-within view 0 some in
    let able : IsTrue (is_able (seen_of view thread)) = able-place view 0 some in
    let announces = able-announces (seen_of view thread) able in
    let selected = All-get_or (λ seen. IsTrue (is_announcing seen) → IsTrue (is_chosen seen)) view thread Over within chosen announces in
    kept-positive left view thread able (left-positive (get_or left thread 0) (seen_of view thread) selected (none-wrong left view none thread within))

pub none-mapped : {A B : Type 0} (f : A → B) (found : Option A) → option_map f found ≡ None → found ≡ None
none-mapped f (Some x) same = cc
none-mapped f None same = refl

pub right-first : (counts left : List ℕ) (view : List Seen) → wrong_by true counts left view ≡ None → first_wrong left view ≡ None
right-first counts left view right = none-mapped (counted counts left) (first_wrong left view) right

-- the bound of a pick under URW is at least 1
pub urw-some : (counts left : List ℕ) (view : List Seen) → 0 < length (able_threads view) → wrong_by true counts left view ≡ None → AreChosen view
    → 0 < urw_bound left view
urw-some counts left view some right chosen = kept-somewhere left view some (right-first counts left view right) chosen

-- where no thread is wrong, one that announces a selected event has a number left
pub chosen-left : (counting : Bool) (counts left : List ℕ) (view : List Seen) (thread : ℕ) → wrong_by counting counts left view ≡ None
    → IsTrue counting → thread < length view → IsTrue (is_chosen (seen_of view thread)) → 0 < get_or left thread 0
chosen-left true counts left view thread right counts_it within chosen =
    left-positive (get_or left thread 0) (seen_of view thread) chosen (none-wrong left view (right-first counts left view right) thread within)
chosen-left false counts left view thread right counts_it within chosen = absurd (false≢true counts_it)
