-- Counting the events of each thread, one entry after another.
use Rattle.std.proofs.Common.{◌≡◌, ℕ, ◌+◌, ◌<◌, ◌≤◌, ◌&&◌, ◌==◌, Bool, true, false, cond, List, [], ◌∷◌, ◌++◌, length, get_or, set, take, sum, ap, sym, ◌∙◌, inl, inr, arith}
use Rattle.std.proofs.lemmas.Bool.{cases_Bool, cases_eq, cases_lt, eq-eqb, ne_eqb}
use Rattle.std.proofs.lemmas.List.{get_or-set_same, get_or-set_other, get_or_past, length-set, length-append, length-take-le, set_past, take_more}
use Rattle.std.proofs.lemmas.List.FromFn.{fill_by_all, get_or-map-range_with_len, length-map-range_with_len, take-map-range_with_len}
use Rattle.std.proofs.lemmas.List.Sums.{get_or-le-sum_by, sum-map, sum_by-le, sum_by-set}
use Rattle.std.specs.List.{range_with_len}
use Rattle.surw_base.specs.declared.limits.TheConstants.{THREADS}
use Rattle.event_class.specs.declared.pickable.Pickable.{Pickable}
use Rattle.event_class.specs.Selection.{has}
use Rattle.run_rules.specs.declared.entry.Entry.{Entry}
use Rattle.run_rules.specs.EventsMade.{events_made}
use Rattle.run_rules.proofs.EarlierPositions.{map-range-same}
use Rattle.run_rules.proofs.Numbers.{made-more, made-none}
use Rattle.run_rules.proofs.Prefixes.{at-whole}
use Rattle.pure_run.specs.Profile.{counts_made}

-- an entry that isn't selected counts for none
pub made-kept : (selection : List Pickable) (journal : List Entry) (entry : Entry) (threads : ℕ) → has selection entry.event ≡ false
    → counts_made selection (journal ++ entry ∷ []) threads ≡ counts_made selection journal threads
unfolding counts_made
made-kept selection journal entry threads skipped =
    map-range-same (λ thread. events_made selection (journal ++ entry ∷ []) thread) (λ thread. events_made selection journal thread) threads
    (λ thread below. made-none selection journal entry thread skipped)

-- a selected one counts for its thread
pub made-next : (selection : List Pickable) (journal : List Entry) (entry : Entry) (threads : ℕ) → has selection entry.event ≡ true
    → set (counts_made selection journal threads) entry.thread (get_or (counts_made selection journal threads) entry.thread 0 + 1)
    ≡ counts_made selection (journal ++ entry ∷ []) threads
unfolding counts_made
made-next selection journal entry threads selected =
    let counts : List ℕ = counts_made selection journal threads in
    let longer : List Entry = journal ++ entry ∷ [] in
    let long : length counts ≡ threads = length-map-range_with_len (λ thread. events_made selection journal thread) 0 threads in
    fill_by_all (λ thread. events_made selection longer thread) (set counts entry.thread (get_or counts entry.thread 0 + 1)) threads 0
    (length-set counts entry.thread (get_or counts entry.thread 0 + 1) ∙ long)
    (λ k below.
    let more : events_made selection longer k ≡ events_made selection journal k + cond (entry.thread == k) 1 0 =
    made-more selection journal entry k ∙ ap (λ (b : Bool). events_made selection journal k + cond (b && (entry.thread == k)) 1 0) selected in
    let before : get_or counts k 0 ≡ events_made selection journal k =
    get_or-map-range_with_len (λ thread. events_made selection journal thread) 0 threads k k 0 below (omega arith) in
    elim (cases_eq entry.thread k) [
      | inl same ↦
          let here : get_or (set counts entry.thread (get_or counts entry.thread 0 + 1)) k 0 ≡ get_or counts k 0 + 1 =
          ap (λ t. get_or (set counts t (get_or counts t 0 + 1)) k 0) same ∙ get_or-set_same counts k (get_or counts k 0 + 1) 0 (omega (arith, long, below)) in
          let one : cond (entry.thread == k) 1 0 ≡ 1 = ap (λ (b : Bool). cond {A = ℕ} b 1 0) (eq-eqb entry.thread k same) in
          omega (arith, here, before, more, one)
      | inr differ ↦
          let here : get_or (set counts entry.thread (get_or counts entry.thread 0 + 1)) k 0 ≡ get_or counts k 0 =
          get_or-set_other counts entry.thread k (get_or counts entry.thread 0 + 1) 0 (λ same. differ (sym same)) in
          let none : cond (entry.thread == k) 1 0 ≡ 0 = ap (λ (b : Bool). cond {A = ℕ} b 1 0) (ne_eqb entry.thread k differ) in
          omega (arith, here, before, more, none)
    ])

-- one more at one place
sum-one-more : (counts : List ℕ) (thread : ℕ) → sum (set counts thread (get_or counts thread 0 + 1)) ≤ sum counts + 1
sum-one-more counts thread = elim (cases_lt thread (length counts)) [
  | inl within ↦ omega (arith, sum_by-set (λ n. n) counts thread (get_or counts thread 0 + 1) 0 within)
  | inr past ↦ omega (arith, ap sum (set_past counts thread (get_or counts thread 0 + 1) past))
]

sum-none : (selection : List Pickable) (threads : ℕ) → sum (counts_made selection [] threads) ≤ 0
unfolding counts_made events_made
sum-none selection threads =
    let zeros : ℕ → ℕ = λ thread. events_made selection [] thread in
    omega (arith, sum-map zeros (range_with_len 0 threads), sum_by-le zeros 0 (range_with_len 0 threads) (λ k below. omega arith))

-- the counts are together at most as many as entries
pub made-sum : (selection : List Pickable) (journal : List Entry) (threads : ℕ) → sum (counts_made selection journal threads) ≤ length journal
made-sum selection journal threads =
    at-whole (λ entries. sum (counts_made selection entries threads) ≤ length entries) journal
    (sum-none selection threads)
    (λ k entry at less.
    let entries : List Entry = take k journal in
    let longer : length (entries ++ entry ∷ []) ≡ length entries + 1 = length-append entries (entry ∷ []) in
    elim (cases_Bool (has selection entry.event)) [
      | inl selected ↦
          omega (
            arith,
            less,
            longer,
            ap sum (made-next selection entries entry threads selected),
            sum-one-more (counts_made selection entries threads) entry.thread,
          )
      | inr skipped ↦ omega (arith, less, longer, ap sum (made-kept selection entries entry threads skipped))
    ])

-- no count is above the number of entries
pub made-few : (selection : List Pickable) (journal : List Entry) (threads thread : ℕ) → get_or (counts_made selection journal threads) thread 0 ≤ length journal
made-few selection journal threads thread =
    let counts : List ℕ = counts_made selection journal threads in
    elim (cases_lt thread (length counts)) [
      | inl within ↦ omega (arith, get_or-le-sum_by (λ n. n) counts thread 0 within, made-sum selection journal threads)
      | inr past ↦ omega (arith, get_or_past counts thread 0 past)
    ]

-- the counts of the first threads
pub made-first : (selection : List Pickable) (journal : List Entry) (threads more : ℕ) → threads ≤ more
    → take threads (counts_made selection journal more) ≡ counts_made selection journal threads
unfolding counts_made
made-first selection journal threads more few = take-map-range_with_len (λ thread. events_made selection journal thread) 0 more threads few

-- ---- the counts while the entries of a journal are gone through
module _ (selection : List Pickable) (journal : List Entry) (k : ℕ) (entry : Entry) (threads : ℕ) (counts : List ℕ)
    (so_far : counts ≡ counts_made selection (take k journal) threads) (within : k < length journal) (here : entry ≡ get_or journal k entry) where
  cut : take (k + 1) journal ≡ take k journal ++ entry ∷ []
  cut = take_more journal k entry within ∙ ap (λ e. take k journal ++ e ∷ []) (sym here)

  pub counts-next : (thread : ℕ) → thread ≡ entry.thread → has selection entry.event ≡ true
      → set counts thread (get_or counts thread 0 + 1) ≡ counts_made selection (take (k + 1) journal) threads
  counts-next thread same selected =
      (λ i. set (so_far i) (same i) (get_or (so_far i) (same i) 0 + 1))
      ∙ made-next selection (take k journal) entry threads selected
      ∙ ap (λ entries. counts_made selection entries threads) (sym cut)

  pub counts-kept : has selection entry.event ≡ false → counts ≡ counts_made selection (take (k + 1) journal) threads
  counts-kept skipped =
      so_far ∙ sym (made-kept selection (take k journal) entry threads skipped) ∙ ap (λ entries. counts_made selection entries threads) (sym cut)

  pub counts-few : (thread : ℕ) → get_or counts thread 0 ≤ k
  counts-few thread =
      omega (arith, ap (λ numbers. get_or numbers thread 0) so_far, made-few selection (take k journal) threads thread, length-take-le k journal (omega (arith, within)))

-- ---- the first of the counts of as many threads as there can be
module _ (selection : List Pickable) (journal entries : List Entry) (threads : ℕ) (counts : List ℕ) (same : entries ≡ journal)
    (few : threads ≤ THREADS) (is : counts ≡ counts_made selection entries THREADS) where
  pub first-counts : take threads counts ≡ counts_made selection journal threads
  first-counts = ap (take threads) is ∙ made-first selection entries threads THREADS few ∙ ap (λ es. counts_made selection es threads) same

  pub first-sum : sum (take threads counts) ≤ length journal
  first-sum = omega (arith, ap sum first-counts, made-sum selection journal threads)
