-- The changes before a step, one after another.
use Rattle.std.proofs.Common.{◌≡◌, ◌≢◌, ℕ, ◌+◌, ◌==◌, ◌<◌, ◌≤◌, inl, inr, Bool, cond, List, length, drop, get_or, set, refl, ap, sym, ◌∙◌, subst, arith}
use Rattle.std.proofs.lemmas.Bool.{cases_lt, cases_eq, eq-eqb, ne_eqb}
use Rattle.std.proofs.lemmas.List.{drop_more, drop_all, get_or_past, get_or-set_same, get_or-set_other, length-set}
use Rattle.walk_rules.specs.Pct.{changed, highest}
use Rattle.walk_rules.specs.Ranked.{Ranked, IsFresh}
use Rattle.walk_rules.specs.Seen.{able_threads}
use Rattle.walk_rules.specs.declared.seen.Seen.{Seen}

-- the changes at the first points were made
pub record IsChangedTo (step : ℕ) (view : List Seen) (before now : Ranked) (place : ℕ) : Type 0 where
  pub threads : now.threads ≡ before.threads
  pub points : now.changes ≡ before.changes
  pub drawn : length now.priorities ≡ now.threads
  pub rest : changed step view (place + 1) (drop place before.changes) now.priorities ≡ changed step view 1 before.changes before.priorities
  pub fresh : (i : ℕ) → i < length before.changes → place ≤ i → step ≤ get_or before.changes i 0 → (thread : ℕ) → get_or now.priorities thread 0 ≢ i + 1
  pub past : (i : ℕ) → i < place → step + 1 ≤ get_or before.changes i 0 → (thread : ℕ) → get_or now.priorities thread 0 ≢ i + 1

pub changed-first : (step : ℕ) (view : List Seen) (before : Ranked) → length before.priorities ≡ before.threads
    → IsFresh step before.changes before.priorities → IsChangedTo step view before before 0
unfolding IsFresh
changed-first step view before drawn fresh = record {
  threads = refl;
  points = refl;
  drawn = drawn;
  rest = refl;
  fresh = λ i lt first reached. fresh i lt reached;
  past = λ i lt. absurd (omega (arith, lt));
}

set-apart : (priorities : List ℕ) (thread value other : ℕ) → value ≢ other → ((t : ℕ) → get_or priorities t 0 ≢ other) → (t : ℕ)
    → get_or (set priorities thread value) t 0 ≢ other
set-apart priorities thread value other apart each t = elim (cases_eq t thread) as (λ _. get_or (set priorities thread value) t 0 ≢ other) [
  | inl same ↦ elim (cases_lt thread (length priorities)) as (λ _. get_or (set priorities thread value) t 0 ≢ other) [
    | inl low ↦ λ e. apart (sym (get_or-set_same priorities thread value 0 low) ∙ ap (λ n. get_or (set priorities thread value) n 0) (sym same) ∙ e)
    | inr high ↦ λ e. each t (omega (
      arith,
      e,
      same,
      get_or_past (set priorities thread value) t 0
          (omega (arith, same, high, length-set priorities thread value)),
      get_or_past priorities t 0 (omega (arith, same, high)),
    ))
  ]
  | inr differ ↦ λ e. each t (sym (get_or-set_other priorities thread t value 0 differ) ∙ e)
]

below-place : (i place : ℕ) → i < place + 1 → i ≢ place → i < place
below-place i place low differ = elim (cases_lt i place) as (λ _. i < place) [ inl lt ↦ lt | inr past ↦ absurd (differ (omega (arith, low, past))) ]

changed-step : (step : ℕ) (view : List Seen) (points : List ℕ) (place : ℕ) (priorities : List ℕ) → place < length points
    → changed step view (place + 1) (drop place points) priorities
    ≡ changed step view (place + 1 + 1) (drop (place + 1) points)
    (cond (get_or points place 0 == step) (set priorities (highest priorities (able_threads view)) (place + 1)) priorities)
unfolding changed
changed-step step view points place priorities lt = ap (λ l. changed step view (place + 1) l priorities) (drop_more points place 0 lt)

-- a point that is this step
pub changed-here : (step : ℕ) (view : List Seen) (before now after : Ranked) (place thread : ℕ) → IsChangedTo step view before now place
    → place < length before.changes → get_or before.changes place 0 ≡ step
    → thread ≡ highest now.priorities (able_threads view)
    → after.threads ≡ now.threads → after.changes ≡ now.changes → after.priorities ≡ set now.priorities thread (place + 1)
    → IsChangedTo step view before after (place + 1)
changed-here step view before now after place thread to lt here thread_is threads points priorities = record {
  threads = threads ∙ to.threads;
  points = points ∙ to.points;
  drawn = ap length priorities ∙ length-set now.priorities thread (place + 1) ∙ to.drawn ∙ sym threads;
  rest =
      ap (changed step view (place + 1 + 1) (drop (place + 1) before.changes)) (priorities ∙ ap (λ t. set now.priorities t (place + 1)) thread_is)
      ∙ ap (λ (b : Bool). changed step view (place + 1 + 1) (drop (place + 1) before.changes)
      (cond b (set now.priorities (highest now.priorities (able_threads view)) (place + 1)) now.priorities)) (sym (eq-eqb (get_or before.changes place 0) step here))
      ∙ sym (changed-step step view before.changes place now.priorities lt)
      ∙ to.rest;
  fresh = λ i low first reached. subst (λ p. (t : ℕ) → get_or p t 0 ≢ i + 1) (sym priorities)
      (set-apart now.priorities thread (place + 1) (i + 1) (λ e. omega (arith, e, first)) (to.fresh i low (omega (arith, first)) reached));
  past = λ i low later. elim (cases_eq i place) as (λ _. (t : ℕ) → get_or after.priorities t 0 ≢ i + 1) [
    | inl same ↦ absurd (omega (arith, later, here, ap (λ n. get_or before.changes n 0) same))
    | inr differ ↦ subst (λ p. (t : ℕ) → get_or p t 0 ≢ i + 1) (sym priorities)
        (set-apart now.priorities thread (place + 1) (i + 1) (λ e. differ (omega (arith, e))) (to.past i (below-place i place low differ) later))
  ];
}

-- any other point
pub changed-other : (step : ℕ) (view : List Seen) (before now : Ranked) (place : ℕ) → IsChangedTo step view before now place → place < length before.changes
    → get_or before.changes place 0 ≢ step
    → IsChangedTo step view before now (place + 1)
changed-other step view before now place to lt other = record {
  threads = to.threads;
  points = to.points;
  drawn = to.drawn;
  rest =
      ap (λ (b : Bool). changed step view (place + 1 + 1) (drop (place + 1) before.changes)
      (cond b (set now.priorities (highest now.priorities (able_threads view)) (place + 1)) now.priorities)) (sym (ne_eqb (get_or before.changes place 0) step other))
      ∙ sym (changed-step step view before.changes place now.priorities lt)
      ∙ to.rest;
  fresh = λ i low first reached. to.fresh i low (omega (arith, first)) reached;
  past = λ i low later. elim (cases_eq i place) as (λ _. (t : ℕ) → get_or now.priorities t 0 ≢ i + 1) [
    | inl same ↦ to.fresh i (omega (arith, same, lt)) (omega (arith, same)) (omega (arith, later))
    | inr differ ↦ to.past i (below-place i place low differ) later
  ];
}

-- all of them
pub changed-all : (step : ℕ) (view : List Seen) (before now : Ranked) (place : ℕ) → IsChangedTo step view before now place → length before.changes ≤ place
    → now.priorities ≡ changed step view 1 before.changes before.priorities
unfolding changed
changed-all step view before now place to past = ap (λ l. changed step view (place + 1) l now.priorities) (sym (drop_all place before.changes past)) ∙ to.rest

pub changed-fresh : (step : ℕ) (view : List Seen) (before now : Ranked) (place : ℕ) → IsChangedTo step view before now place → length before.changes ≤ place
    → IsFresh (step + 1) now.changes now.priorities
unfolding IsFresh
changed-fresh step view before now place to past =
    λ i low later. to.past i (omega (arith, low, past, ap length to.points)) (omega (arith, later, ap (λ l. get_or l i 0) to.points))

-- what is apart from the priority that is given
pub apart-here : (step : ℕ) (view : List Seen) (before now : Ranked) (place : ℕ) → IsChangedTo step view before now place → place < length before.changes
    → get_or before.changes place 0 ≡ step
    → (thread : ℕ) → get_or now.priorities thread 0 ≢ place + 1
apart-here step view before now place to lt here = to.fresh place lt (omega arith) (omega (arith, here))
