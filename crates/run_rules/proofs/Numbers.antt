-- The numbers left after one entry more.
use Rattle.std.proofs.Common.{◌≡◌, ℕ, ◌+◌, ◌-◌, ◌==◌, ◌&&◌, ◌<◌, Bool, true, false, cond, List, [], ◌∷◌, ◌++◌, length, get_or, set, ap, sym, ◌∙◌, inl, inr, arith}
use Rattle.std.proofs.lemmas.Bool.{cases_eq, cases_lt, eq-eqb, ne_eqb}
use Rattle.std.proofs.lemmas.List.{ext_get_or, get_or_past, get_or-set_same, get_or-set_other, length-set, length-map, get_or-map}
use Rattle.std.proofs.lemmas.List.FromFn.{length-enumerate_from, get_or-enumerate_from}
use Rattle.std.proofs.lemmas.List.Sums.{sum_by_push}
use Rattle.std.specs.List.{enumerate_from}
use Rattle.event_class.specs.declared.pickable.Pickable.{Pickable}
use Rattle.event_class.specs.Selection.{has}
use Rattle.draw_split.specs.Bag.{less_one}
use Rattle.run_rules.specs.declared.entry.Entry.{Entry}
use Rattle.run_rules.specs.EventsMade.{events_made}
use Rattle.run_rules.specs.NumbersLeft.{numbers_left}

-- one event more where the entry is selected and the thread's
pub made-more : (selection : List Pickable) (journal : List Entry) (entry : Entry) (thread : ℕ)
    → events_made selection (journal ++ entry ∷ []) thread
    ≡ events_made selection journal thread + cond (has selection entry.event && (entry.thread == thread)) 1 0
unfolding events_made
made-more selection journal entry thread =
    sum_by_push (λ (e : Entry). cond (has selection e.event && (e.thread == thread)) 1 0) journal entry

-- none where it isn't
pub made-none : (selection : List Pickable) (journal : List Entry) (entry : Entry) (thread : ℕ) → has selection entry.event ≡ false
    → events_made selection (journal ++ entry ∷ []) thread ≡ events_made selection journal thread
made-none selection journal entry thread not_selected =
    made-more selection journal entry thread
    ∙ ap (λ (b : Bool). events_made selection journal thread + cond (b && (entry.thread == thread)) 1 0) not_selected
    ∙ omega arith

-- the number left of a thread
pub left-place : (selection : List Pickable) (counts : List ℕ) (journal : List Entry) (thread : ℕ) → thread < length counts
    → get_or (numbers_left selection counts journal) thread 0 ≡ get_or counts thread 0 - events_made selection journal thread
unfolding numbers_left
left-place selection counts journal thread within =
    let short : thread < length (enumerate_from 0 counts) = omega (arith, length-enumerate_from 0 counts) in
    get_or-map (λ (e : ℕ × ℕ). e.1 - events_made selection journal e.0) (enumerate_from 0 counts) thread (0, 0) 0 short
    ∙ ap (λ (e : ℕ × ℕ). e.1 - events_made selection journal e.0) (get_or-enumerate_from 0 counts thread (0, 0) within)
    ∙ ap (λ n. get_or counts thread 0 - events_made selection journal n) (omega arith)

pub length-left : (selection : List Pickable) (counts : List ℕ) (journal : List Entry)
    → length (numbers_left selection counts journal) ≡ length counts
unfolding numbers_left
length-left selection counts journal =
    length-map (enumerate_from 0 counts) (λ (e : ℕ × ℕ). e.1 - events_made selection journal e.0) ∙ length-enumerate_from 0 counts

left-one : (selection : List Pickable) (counts : List ℕ) (journal : List Entry) (entry : Entry) → has selection entry.event ≡ true
    → (thread : ℕ) → thread < length counts
    → get_or (numbers_left selection counts (journal ++ entry ∷ [])) thread 0 ≡ get_or (less_one (numbers_left selection counts journal) entry.thread) thread 0
unfolding less_one
left-one selection counts journal entry selected thread within =
    let left : List ℕ = numbers_left selection counts journal in
    let more : events_made selection (journal ++ entry ∷ []) thread ≡ events_made selection journal thread + cond (entry.thread == thread) 1 0 =
    made-more selection journal entry thread
    ∙ ap (λ (b : Bool). events_made selection journal thread + cond (b && (entry.thread == thread)) 1 0) selected in
    let whole : get_or (numbers_left selection counts (journal ++ entry ∷ [])) thread 0 ≡ get_or counts thread 0 -
    (events_made selection journal thread + cond (entry.thread == thread) 1 0) =
    left-place selection counts (journal ++ entry ∷ []) thread within ∙ ap (λ n. get_or counts thread 0 - n) more in
    let part : get_or left thread 0 ≡ get_or counts thread 0 - events_made selection journal thread = left-place selection counts journal thread within in
    let long : length left ≡ length counts = length-left selection counts journal in
    elim (cases_eq entry.thread thread) [
      | inl same ↦
          let here : get_or (set left entry.thread (get_or left entry.thread 0 - 1)) thread 0 ≡ get_or left thread 0 - 1 =
          ap (λ t. get_or (set left t (get_or left t 0 - 1)) thread 0) same ∙ get_or-set_same left thread (get_or left thread 0 - 1) 0 (omega (arith, long)) in
          let one : cond (entry.thread == thread) 1 0 ≡ 1 = ap (λ (b : Bool). cond {A = ℕ} b 1 0) (eq-eqb entry.thread thread same) in
          omega (arith, whole, part, here, one)
      | inr differ ↦
          let here : get_or (set left entry.thread (get_or left entry.thread 0 - 1)) thread 0 ≡ get_or left thread 0 =
          get_or-set_other left entry.thread thread (get_or left entry.thread 0 - 1) 0 (λ e. differ (sym e)) in
          let none : cond (entry.thread == thread) 1 0 ≡ 0 = ap (λ (b : Bool). cond {A = ℕ} b 1 0) (ne_eqb entry.thread thread differ) in
          omega (arith, whole, part, here, none)
    ]

left-same : (selection : List Pickable) (counts : List ℕ) (journal : List Entry) (entry : Entry) → has selection entry.event ≡ false
    → (thread : ℕ) → thread < length counts
    → get_or (numbers_left selection counts (journal ++ entry ∷ [])) thread 0 ≡ get_or (numbers_left selection counts journal) thread 0
left-same selection counts journal entry skipped thread within =
    left-place selection counts (journal ++ entry ∷ []) thread within
    ∙ ap (λ n. get_or counts thread 0 - n) (made-none selection journal entry thread skipped)
    ∙ sym (left-place selection counts journal thread within)

-- the numbers left of a journal whose entry more is selected: one less for its thread
pub left-more : (selection : List Pickable) (counts : List ℕ) (journal : List Entry) (entry : Entry) → has selection entry.event ≡ true
    → numbers_left selection counts (journal ++ entry ∷ []) ≡ less_one (numbers_left selection counts journal) entry.thread
unfolding less_one
left-more selection counts journal entry selected =
    ext_get_or 0 (numbers_left selection counts (journal ++ entry ∷ [])) (less_one (numbers_left selection counts journal) entry.thread)
    (length-left selection counts (journal ++ entry ∷ [])
    ∙ sym (length-set (numbers_left selection counts journal) entry.thread (get_or (numbers_left selection counts journal) entry.thread 0 - 1)
    ∙ length-left selection counts journal))
    (λ thread below. left-one selection counts journal entry selected thread (rw (sym (length-left selection counts (journal ++ entry ∷ []))) below))

-- those of one whose entry more isn't selected: the same
pub left-kept : (selection : List Pickable) (counts : List ℕ) (journal : List Entry) (entry : Entry) → has selection entry.event ≡ false
    → numbers_left selection counts (journal ++ entry ∷ []) ≡ numbers_left selection counts journal
left-kept selection counts journal entry skipped =
    ext_get_or 0 (numbers_left selection counts (journal ++ entry ∷ [])) (numbers_left selection counts journal)
    (length-left selection counts (journal ++ entry ∷ []) ∙ sym (length-left selection counts journal))
    (λ thread below. left-same selection counts journal entry skipped thread (rw (sym (length-left selection counts (journal ++ entry ∷ []))) below))

-- the number left of any thread; one past the counts has none
pub left-any : (selection : List Pickable) (counts : List ℕ) (journal : List Entry) (thread : ℕ)
    → get_or (numbers_left selection counts journal) thread 0 ≡ get_or counts thread 0 - events_made selection journal thread
left-any selection counts journal thread = elim (cases_lt thread (length counts)) [
  | inl within ↦ left-place selection counts journal thread within
  | inr past ↦
      let none : get_or counts thread 0 ≡ 0 = get_or_past counts thread 0 past in
      get_or_past (numbers_left selection counts journal) thread 0 (omega (arith, past, length-left selection counts journal)) ∙ omega (arith, none)
]

-- nothing is taken from the counts yet
pub left-none : (selection : List Pickable) (counts : List ℕ) → numbers_left selection counts [] ≡ counts
unfolding events_made
left-none selection counts =
    ext_get_or 0 (numbers_left selection counts []) counts (length-left selection counts [])
    (λ thread below. left-any selection counts [] thread ∙ omega arith)
