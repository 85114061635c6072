-- Threads by falling priority: the first that can go on is the highest, and where a thread goes that is given another priority.
use Rattle.std.proofs.Common.{◌≡◌, ◌≢◌, ℕ, zero, suc, ◌+◌, ◌==◌, ◌<◌, ◌≤◌, inl, inr, ltb, Bool, true, false, cond, IsTrue, List, [], ◌∷◌, ◌++◌, length, get_or, set, Some, None, refl, ap, sym, ◌∙◌, subst, arith}
use Rattle.std.proofs.lemmas.Bool.{cases_lt, cases_eq, cases_Bool, eq-eqb, ne_eqb, ltb-true, ltb-false, false≢true}
use Rattle.std.proofs.lemmas.List.{get_or-set_same, get_or-set_other}
use Rattle.std.specs.List.{find}
use Rattle.frame_links.specs.Lists.{times, without, with_before, list_at, just_before, at_back}
use Rattle.frame_links.proofs.Times.{times-same, times-other, times-append, times-without_same, times-without_other, without-same, without-other}
use Rattle.frame_links.proofs.Changes.{at_back-same}
use Rattle.surw_base.proofs.Searches.{found-passes}
use Rattle.walk_rules.specs.Pct.{higher, highest}
use Rattle.pct_draws.specs.Order.{IsOrder}
use Rattle.walk_rules.specs.Ranks.{IsFalling}
use Rattle.walk_rules.specs.Seen.{able_threads, is_able, seen_of}
use Rattle.walk_rules.specs.declared.seen.Seen.{Seen}
use Rattle.walk_rules.specs.declared.seen.Seen.TheVariants.{Over, Held, Able}
use Rattle.walk_rules.proofs.AbleThreads.{able_from, able-threads, able-place, able-listed}
use Rattle.walk_rules.proofs.PctLaws.{highest-holds}

-- ---- what is found

found-there : (test : ℕ → Bool) (order : List ℕ) (node : ℕ) → find test order ≡ Some node → 1 ≤ times node order
found-there test [] node is = absurd (cc)
found-there test (first ∷ rest) node is = elim (cases_Bool (test first)) as (λ _. 1 ≤ times node (first ∷ rest)) [
  | inl passes ↦
      let here : Some first ≡ Some node = sym (ap (λ (b : Bool). cond b (Some first) (find test rest)) passes) ∙ is in
      let same : first ≡ node = cc in
      omega (arith, times-same node first rest same)
  | inr fails ↦ omega (arith, found-there test rest node (sym (ap (λ (b : Bool). cond b (Some first) (find test rest)) fails) ∙ is))
]

-- where nothing is found, nothing of the list passes
none-passes : (test : ℕ → Bool) (order : List ℕ) (node : ℕ) → find test order ≡ None → 1 ≤ times node order → test node ≡ false
none-passes test [] node is there = absurd (omega (arith, there))
none-passes test (first ∷ rest) node is there = elim (cases_Bool (test first)) as (λ _. test node ≡ false) [
  | inl passes ↦
      let here : Some first ≡ None = sym (ap (λ (b : Bool). cond b (Some first) (find test rest)) passes) ∙ is in
      absurd (cc)
  | inr fails ↦
      let later : find test rest ≡ None = sym (ap (λ (b : Bool). cond b (Some first) (find test rest)) fails) ∙ is in
      elim (cases_eq first node) as (λ _. test node ≡ false) [
        | inl same ↦ ap test (sym same) ∙ fails
        | inr other ↦ none-passes test rest node later (omega (arith, there, times-other node first rest other))
      ]
]

-- what is found is the highest that passes
found-first : (priorities : List ℕ) (test : ℕ → Bool) (order : List ℕ) (node other : ℕ) → IsFalling priorities order → find test order ≡ Some node
    → 1 ≤ times other order → test other ≡ true
    → get_or priorities node 0 ≤ get_or priorities other 0 → other ≡ node
found-first priorities test [] node other falls is there passes high = absurd (cc)
found-first priorities test (first ∷ rest) node other falls is there passes high = elim (cases_Bool (test first)) as (λ _. other ≡ node) [
  | inl first_passes ↦
      let here : Some first ≡ Some node = sym (ap (λ (b : Bool). cond b (Some first) (find test rest)) first_passes) ∙ is in
      let same : first ≡ node = cc in
      elim (cases_eq first other) as (λ _. other ≡ node) [
        | inl first_is ↦ sym first_is ∙ same
        | inr differ ↦ absurd (omega (arith, high, ap (λ n. get_or priorities n 0) same, falls.0 other (omega (arith, there, times-other other first rest differ))))
      ]
  | inr first_fails ↦
      let later : find test rest ≡ Some node = sym (ap (λ (b : Bool). cond b (Some first) (find test rest)) first_fails) ∙ is in
      elim (cases_eq first other) as (λ _. other ≡ node) [
        | inl first_is ↦ absurd (false≢true (sym first_fails ∙ ap test first_is ∙ passes))
        | inr differ ↦ found-first priorities test rest node other falls.1 later (omega (arith, there, times-other other first rest differ)) passes high
      ]
]

-- ---- the highest of some threads

record IsOver (priorities : List ℕ) (thread : ℕ) (threads : List ℕ) (high : ℕ) : Type 0 where
  first : get_or priorities thread 0 ≤ get_or priorities high 0
  others : (other : ℕ) → 1 ≤ times other threads → get_or priorities other 0 ≤ get_or priorities high 0

over-next : (priorities : List ℕ) (thread next : ℕ) (rest : List ℕ) (high : ℕ) → get_or priorities thread 0 ≤ get_or priorities high 0
    → get_or priorities next 0 ≤ get_or priorities high 0
    → ((other : ℕ) → 1 ≤ times other rest → get_or priorities other 0 ≤ get_or priorities high 0) → IsOver priorities thread (next ∷ rest) high
over-next priorities thread next rest high first second others = record {
  first = first;
  others = λ other there. elim (cases_eq next other) as (λ _. get_or priorities other 0 ≤ get_or priorities high 0) [
    | inl same ↦ omega (arith, second, ap (λ n. get_or priorities n 0) same)
    | inr differ ↦ others other (omega (arith, there, times-other other next rest differ))
  ];
}

higher-over : (priorities : List ℕ) (thread : ℕ) (threads : List ℕ) → IsOver priorities thread threads (higher priorities thread threads)
unfolding higher
higher-over priorities thread [] = record { first = omega arith; others = λ other there. absurd (omega (arith, there)) }
higher-over priorities thread (next ∷ rest) =
    elim (cases_Bool (ltb (get_or priorities thread 0) (get_or priorities next 0))) as (λ _. IsOver priorities thread (next ∷ rest)
    (higher priorities thread (next ∷ rest))) [
      | inl less ↦
          let lt : get_or priorities thread 0 < get_or priorities next 0 = ltb-true (get_or priorities thread 0) (get_or priorities next 0) less in
          subst (IsOver priorities thread (next ∷ rest)) (sym (ap (λ (b : Bool). higher priorities (cond b next thread) rest) less))
          (over-next priorities thread next rest (higher priorities next rest) (omega (arith, lt, (higher-over priorities next rest).first))
          (higher-over priorities next rest).first (higher-over priorities next rest).others)
      | inr more ↦
          let le : get_or priorities next 0 ≤ get_or priorities thread 0 = ltb-false (get_or priorities thread 0) (get_or priorities next 0) more in
          subst (IsOver priorities thread (next ∷ rest)) (sym (ap (λ (b : Bool). higher priorities (cond b next thread) rest) more))
          (over-next priorities thread next rest (higher priorities thread rest) (higher-over priorities thread rest).first
          (omega (arith, le, (higher-over priorities thread rest).first)) (higher-over priorities thread rest).others)
    ]

highest-over : (priorities threads : List ℕ) (other : ℕ) → 1 ≤ times other threads → get_or priorities other 0 ≤ get_or priorities (highest priorities threads) 0
highest-over priorities [] other there = absurd (omega (arith, there))
highest-over priorities (thread ∷ threads) other there =
    elim (cases_eq thread other) as (λ _. get_or priorities other 0 ≤ get_or priorities (higher priorities thread threads) 0) [
      | inl same ↦ omega (arith, ap (λ n. get_or priorities n 0) same, (higher-over priorities thread threads).first)
      | inr differ ↦ (higher-over priorities thread threads).others other (omega (arith, there, times-other other thread threads differ))
    ]

more-has : (first : ℕ) (view : List Seen) (place : ℕ) → 1 ≤ times (first + 1 + place) (able_from (first + 1) view)
    → 1 ≤ times (first + suc place) (able_from (first + 1) view)
more-has first view place there =
    let same : first + 1 + place ≡ first + suc place = omega arith in
    subst (λ thread. 1 ≤ times thread (able_from (first + 1) view)) same there

-- a thread that can go on is one of those that can
able_from-has : (first : ℕ) (view : List Seen) (place : ℕ) → IsTrue (is_able (seen_of view place)) → 1 ≤ times (first + place) (able_from first view)
able_from-has first [] zero able = absurd (false≢true able)
able_from-has first [] (suc place) able = absurd (false≢true able)
able_from-has first (Over ∷ view) zero able = absurd (false≢true able)
able_from-has first (Held chosen ∷ view) zero able = absurd (false≢true able)
able_from-has first (Able chosen ∷ view) zero able =
    let same : first ≡ first + 0 = omega arith in
    omega (arith, times-same (first + 0) first (able_from (first + 1) view) same)
able_from-has first (Over ∷ view) (suc place) able = more-has first view place (able_from-has (first + 1) view place able)
able_from-has first (Held chosen ∷ view) (suc place) able = more-has first view place (able_from-has (first + 1) view place able)
able_from-has first (Able chosen ∷ view) (suc place) able =
    let rest : 1 ≤ times (first + suc place) (able_from (first + 1) view) = more-has first view place (able_from-has (first + 1) view place able) in
    omega (arith, rest)

able-has : (view : List Seen) (thread : ℕ) → IsTrue (is_able (seen_of view thread)) → 1 ≤ times thread (able_threads view)
able-has view thread able =
    let same : 0 + thread ≡ thread = omega arith in
    subst (λ threads. 1 ≤ times thread threads) (sym (able-threads view)) (subst (λ t. 1 ≤ times t (able_from 0 view)) same (able_from-has 0 view thread able))

-- the first thread that can go on is the one of highest priority among those that can
pub first-highest : (priorities order : List ℕ) (view : List Seen) (node : ℕ) → IsFalling priorities order → IsOrder (length view) order → 0 < length (able_threads view)
    → find (λ thread. is_able (seen_of view thread)) order ≡ Some node → node ≡ highest priorities (able_threads view)
first-highest priorities order view node falls each some is =
    let high : ℕ = highest priorities (able_threads view) in
    let able : IsTrue (is_able (seen_of view (highest priorities (able_threads view)))) =
    highest-holds (λ thread. IsTrue (is_able (seen_of view thread))) priorities (able_threads view) some (able-place view) in
    let there : 1 ≤ times (highest priorities (able_threads view)) order =
    omega (arith, each.once (highest priorities (able_threads view)) (able-listed view (highest priorities (able_threads view)) able)) in
    let node_able : IsTrue (is_able (seen_of view node)) = found-passes (λ thread. is_able (seen_of view thread)) order node is in
    sym (found-first priorities (λ thread. is_able (seen_of view thread)) order node (highest priorities (able_threads view)) falls is there able
    (highest-over priorities (able_threads view) node (able-has view node node_able)))

-- and there is one where some thread can go on
pub first-some : (order : List ℕ) (view : List Seen) → IsOrder (length view) order → 0 < length (able_threads view)
    → find (λ thread. is_able (seen_of view thread)) order ≢ None
first-some order view each some is =
    let able : IsTrue (is_able (seen_of view (get_or (able_threads view) 0 0))) = able-place view 0 some in
    let there : 1 ≤ times (get_or (able_threads view) 0 0) order =
    omega (arith, each.once (get_or (able_threads view) 0 0) (able-listed view (get_or (able_threads view) 0 0) able)) in
    false≢true (sym (none-passes (λ thread. is_able (seen_of view thread)) order (get_or (able_threads view) 0 0) is there) ∙ able)

-- ---- a thread that is given another priority

-- no thread but this one has another priority than before
falling-without : (priorities : List ℕ) (thread priority : ℕ) (order : List ℕ) → IsFalling priorities order
    → IsFalling (set priorities thread priority) (without thread order)
falling-without priorities thread priority [] falls = tt
falling-without priorities thread priority (first ∷ rest) falls =
    elim (cases_eq first thread) as (λ _. IsFalling (set priorities thread priority) (without thread (first ∷ rest))) [
      | inl same ↦ subst (IsFalling (set priorities thread priority)) (sym (without-same thread first rest same)) (falling-without priorities thread priority rest falls.1)
      | inr differ ↦
          subst (IsFalling (set priorities thread priority)) (sym (without-other thread first rest differ)) (
            (λ other there.
                let apart : other ≢ thread = λ e. omega (arith, there, ap (λ n. times n (without thread rest)) e, times-without_same thread rest) in
                let less : get_or priorities other 0 < get_or priorities first 0 = falls.0 other (omega (arith, there, times-without_other other thread rest apart)) in
                omega (arith, less, get_or-set_other priorities thread other priority 0 apart, get_or-set_other priorities thread first priority 0 differ)),
            falling-without priorities thread priority rest falls.1,
          )
    ]

-- what fails is found neither with the thread nor without it
find-without : (test : ℕ → Bool) (thread : ℕ) (order : List ℕ) → test thread ≡ false → find test (without thread order) ≡ find test order
find-without test thread [] fails = refl
find-without test thread (first ∷ rest) fails = elim (cases_eq first thread) as (λ _. find test (without thread (first ∷ rest)) ≡ find test (first ∷ rest)) [
  | inl same ↦
      ap (find test) (without-same thread first rest same)
      ∙ find-without test thread rest fails
      ∙ sym (ap (λ (b : Bool). cond b (Some first) (find test rest)) (ap test same ∙ fails))
  | inr differ ↦
      ap (find test) (without-other thread first rest differ)
      ∙ ap (λ o. cond (test first) (Some first) o) (find-without test thread rest fails)
]

times-with_before : (thread lower other : ℕ) (xs : List ℕ) → other ≢ thread → times other (with_before thread lower xs) ≡ times other xs
times-with_before thread lower other [] apart = refl
times-with_before thread lower other (first ∷ rest) apart =
    elim (cases_eq first lower) as (λ _. times other (with_before thread lower (first ∷ rest)) ≡ times other (first ∷ rest)) [
      | inl same ↦
          ap (times other) (ap (λ (b : Bool). cond b (thread ∷ first ∷ rest) (first ∷ with_before thread lower rest)) (eq-eqb first lower same))
          ∙ times-other other thread (first ∷ rest) (λ e. apart (sym e))
      | inr differ ↦
          ap (times other) (ap (λ (b : Bool). cond b (thread ∷ first ∷ rest) (first ∷ with_before thread lower rest)) (ne_eqb first lower differ))
          ∙ ap (λ (n : ℕ). cond {A = ℕ} (first == other) 1 0 + n) (times-with_before thread lower other rest apart)
    ]

abbrev below : List ℕ → ℕ → ℕ → Bool
below priorities priority thread = ltb (get_or priorities thread 0) priority

strictly : (m n : ℕ) → n ≤ m → m ≢ n → n < m
strictly m n le ne = elim (cases_lt n m) as (λ _. n < m) [ inl lt ↦ lt | inr past ↦ absurd (ne (omega (arith, le, past))) ]

not-below : (m n : ℕ) → m ≡ n → ltb m n ≡ false
not-below m n same = elim (cases_Bool (ltb m n)) as (λ _. ltb m n ≡ false) [ inl less ↦ absurd (omega (arith, same, ltb-true m n less)) | inr not_less ↦ not_less ]

-- before the first of a lower priority
falling-before : (priorities : List ℕ) (thread priority lower : ℕ) (xs : List ℕ) → get_or priorities thread 0 ≡ priority → IsFalling priorities xs
    → ((other : ℕ) → 1 ≤ times other xs → get_or priorities other 0 ≢ priority) → find (below priorities priority) xs ≡ Some lower
    → IsFalling priorities (with_before thread lower xs)
falling-before priorities thread priority lower [] given falls apart is = absurd (cc)
falling-before priorities thread priority lower (first ∷ rest) given falls apart is =
    elim (cases_Bool (below priorities priority first)) as (λ _. IsFalling priorities (with_before thread lower (first ∷ rest))) [
      | inl passes ↦
          let here : Some first ≡ Some lower = sym (ap (λ (b : Bool). cond b (Some first) (find (below priorities priority) rest)) passes) ∙ is in
          let same : first ≡ lower = cc in
          let less : get_or priorities first 0 < priority = ltb-true (get_or priorities first 0) priority passes in
          subst (IsFalling priorities) (sym (ap (λ (b : Bool). cond b (thread ∷ first ∷ rest) (first ∷ with_before thread lower rest)) (eq-eqb first lower same))) (
            (λ other there. elim (cases_eq first other) as (λ _. get_or priorities other 0 < get_or priorities thread 0) [
              | inl is_first ↦ omega (arith, less, given, ap (λ n. get_or priorities n 0) is_first)
              | inr differ ↦ omega (arith, less, given, falls.0 other (omega (arith, there, times-other other first rest differ)))
            ]),
            falls,
          )
      | inr fails ↦
          let later : find (below priorities priority) rest ≡ Some lower = sym (ap (λ (b : Bool). cond b (Some first) (find (below priorities priority) rest)) fails) ∙ is in
          let more : priority ≤ get_or priorities first 0 = ltb-false (get_or priorities first 0) priority fails in
          let ne : get_or priorities first 0 ≢ priority = apart first (omega (arith, times-same first first rest refl)) in
          let over : priority < get_or priorities first 0 = strictly (get_or priorities first 0) priority more ne in
          let differ : first ≢ lower = λ e. false≢true (sym fails ∙ ap (below priorities priority) e ∙ found-passes (below priorities priority) rest lower later) in
          subst (IsFalling priorities) (sym (ap (λ (b : Bool). cond b (thread ∷ first ∷ rest) (first ∷ with_before thread lower rest)) (ne_eqb first lower differ))) (
            (λ other there. elim (cases_eq other thread) as (λ _. get_or priorities other 0 < get_or priorities first 0) [
              | inl is_thread ↦ omega (arith, over, given, ap (λ n. get_or priorities n 0) is_thread)
              | inr not_thread ↦ falls.0 other (omega (arith, there, times-with_before thread lower other rest not_thread))
            ]),
            falling-before priorities thread priority lower rest given falls.1 (λ other there. apart other (omega (arith, there))) later,
          )
    ]

-- or at the back
falling-back : (priorities : List ℕ) (thread priority : ℕ) (xs : List ℕ) → get_or priorities thread 0 ≡ priority → IsFalling priorities xs
    → ((other : ℕ) → 1 ≤ times other xs → get_or priorities other 0 ≢ priority) → find (below priorities priority) xs ≡ None
    → IsFalling priorities (xs ++ thread ∷ [])
falling-back priorities thread priority [] given falls apart is = ((λ other there. absurd (omega (arith, there))), tt)
falling-back priorities thread priority (first ∷ rest) given falls apart is =
    let here : 1 ≤ times first (first ∷ rest) = omega (arith, times-same first first rest refl) in
    let fails : below priorities priority first ≡ false = none-passes (below priorities priority) (first ∷ rest) first is here in
    let later : find (below priorities priority) rest ≡ None = sym (ap (λ (b : Bool). cond b (Some first) (find (below priorities priority) rest)) fails) ∙ is in
    let more : priority ≤ get_or priorities first 0 = ltb-false (get_or priorities first 0) priority fails in
    let over : priority < get_or priorities first 0 = strictly (get_or priorities first 0) priority more (apart first here) in (
      (λ other there. elim (cases_eq thread other) as (λ _. get_or priorities other 0 < get_or priorities first 0) [
        | inl is_thread ↦ omega (arith, over, given, ap (λ n. get_or priorities n 0) is_thread)
        | inr not_thread ↦ falls.0 other (omega (arith, there, times-append other rest (thread ∷ []), times-other other thread [] not_thread))
      ]),
      falling-back priorities thread priority rest given falls.1 (λ other there. apart other (omega (arith, there))) later,
    )

-- both, from the list before
module _ (priorities order : List ℕ) (thread priority : ℕ) (within : thread < length priorities) (falls : IsFalling priorities order)
    (apart : (other : ℕ) → get_or priorities other 0 ≢ priority) where
  abbrev new : List ℕ
  new = set priorities thread priority

  given : get_or (set priorities thread priority) thread 0 ≡ priority
  given = get_or-set_same priorities thread priority 0 within

  others : (other : ℕ) → 1 ≤ times other (without thread order) → get_or (set priorities thread priority) other 0 ≢ priority
  others other there =
      let differ : other ≢ thread = λ e. omega (arith, there, ap (λ n. times n (without thread order)) e, times-without_same thread order) in
      λ same. apart other (sym (get_or-set_other priorities thread other priority 0 differ) ∙ same)

  itself : below (set priorities thread priority) priority thread ≡ false
  itself = not-below (get_or (set priorities thread priority) thread 0) priority given

  pub given-before : (lower : ℕ) → find (below (set priorities thread priority) priority) order ≡ Some lower
      → IsFalling (set priorities thread priority) (with_before thread lower (without thread order))
  given-before lower is =
      falling-before (set priorities thread priority) thread priority lower (without thread order) given (falling-without priorities thread priority order falls) others
      (find-without (below (set priorities thread priority) priority) thread order itself ∙ is)

  pub given-back : find (below (set priorities thread priority) priority) order ≡ None → IsFalling (set priorities thread priority) (without thread order ++ thread ∷ [])
  given-back is =
      falling-back (set priorities thread priority) thread priority (without thread order) given (falling-without priorities thread priority order falls) others
      (find-without (below (set priorities thread priority) priority) thread order itself ∙ is)

-- what is found is one of the list
pub found-in : (test : ℕ → Bool) (order : List ℕ) (node : ℕ) → find test order ≡ Some node → 1 ≤ times node order
found-in test order node is = found-there test order node is

-- the one list after a node went before another
pub only-before : (lists : List (List ℕ)) (node other : ℕ) → length lists ≡ 1
    → list_at (just_before lists node other) 0 ≡ with_before node other (without node (list_at lists 0))
only-before [] node other one = refl
only-before (first ∷ rest) node other one = refl

-- the list after a thread was given a priority, with the thread before the first of a lower one
pub ranked-before : (lists after : List (List ℕ)) (priorities now : List ℕ) (thread node priority lower : ℕ) → length lists ≡ 1
    → IsFalling priorities (list_at lists 0) → thread < length priorities
    → ((other : ℕ) → get_or priorities other 0 ≢ priority) → now ≡ set priorities thread priority → node ≡ thread
    → find (λ t. ltb (get_or now t 0) priority) (list_at lists 0) ≡ Some lower → after ≡ just_before lists node lower → IsFalling now (list_at after 0)
ranked-before lists after priorities now thread node priority lower one falls within apart set_is node_is found moved =
    let is : find (λ t. ltb (get_or (set priorities thread priority) t 0) priority) (list_at lists 0) ≡ Some lower =
    ap (λ p. find (λ t. ltb (get_or p t 0) priority) (list_at lists 0)) (sym set_is) ∙ found in
    let list : list_at after 0 ≡ with_before thread lower (without thread (list_at lists 0)) =
    ap (λ ls. list_at ls 0) moved ∙ only-before lists node lower one ∙ ap (λ n. with_before n lower (without n (list_at lists 0))) node_is in
    subst (λ p. IsFalling p (list_at after 0)) (sym set_is)
    (subst (IsFalling (set priorities thread priority)) (sym list) (given-before priorities (list_at lists 0) thread priority within falls apart lower is))

pub ranked-back : (lists after : List (List ℕ)) (priorities now : List ℕ) (thread node priority : ℕ) → length lists ≡ 1
    → IsFalling priorities (list_at lists 0) → thread < length priorities
    → ((other : ℕ) → get_or priorities other 0 ≢ priority) → now ≡ set priorities thread priority → node ≡ thread
    → find (λ t. ltb (get_or now t 0) priority) (list_at lists 0) ≡ None → after ≡ at_back lists 0 node → IsFalling now (list_at after 0)
ranked-back lists after priorities now thread node priority one falls within apart set_is node_is found moved =
    let is : find (λ t. ltb (get_or (set priorities thread priority) t 0) priority) (list_at lists 0) ≡ None =
    ap (λ p. find (λ t. ltb (get_or p t 0) priority) (list_at lists 0)) (sym set_is) ∙ found in
    let list : list_at after 0 ≡ without thread (list_at lists 0) ++ thread ∷ [] =
    ap (λ ls. list_at ls 0) moved ∙ at_back-same lists 0 node (omega (arith, one)) ∙ ap (λ n. without n (list_at lists 0) ++ n ∷ []) node_is in
    subst (λ p. IsFalling p (list_at after 0)) (sym set_is)
    (subst (IsFalling (set priorities thread priority)) (sym list) (given-back priorities (list_at lists 0) thread priority within falls apart is))

pub lower-other : (lists : List (List ℕ)) (priorities now : List ℕ) (thread node priority lower : ℕ) → thread < length priorities
    → now ≡ set priorities thread priority → node ≡ thread
    → find (λ t. ltb (get_or now t 0) priority) (list_at lists 0) ≡ Some lower → node ≢ lower
lower-other lists priorities now thread node priority lower within set_is node_is found = λ same.
    let level : get_or now lower 0 ≡ priority = ap (λ p. get_or p lower 0) set_is
    ∙ ap (λ n. get_or (set priorities thread priority) n 0) (sym same ∙ node_is) ∙ get_or-set_same priorities thread priority 0 within in
    omega (arith, level, ltb-true (get_or now lower 0) priority (found-passes (λ t. ltb (get_or now t 0) priority) (list_at lists 0) lower found))
