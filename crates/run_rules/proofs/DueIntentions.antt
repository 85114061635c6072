-- Where an intention is due, and what is left where the last one was drawn, with one entry more.
use Rattle.std.proofs.Common.{◌≡◌, ℕ, ◌-◌, ◌≤◌, Bool, true, false, List, [], ◌∷◌, ◌++◌, take, sum, refl, ap, sym, ◌∙◌, inl, inr, arith}
use Rattle.std.proofs.lemmas.Bool.{cases_Bool, false≢true}
use Rattle.std.proofs.lemmas.List.Sums.{sum-map, sum_by-le-sum_by}
use Rattle.std.specs.List.{enumerate_from}
use Rattle.event_class.specs.declared.pickable.Pickable.{Pickable}
use Rattle.run_rules.specs.declared.entry.Entry.{Entry}
use Rattle.run_rules.specs.EventsMade.{events_made}
use Rattle.run_rules.specs.Intention.{ends_intention, ending_prefixes, intention_lefts, last_left}
use Rattle.run_rules.specs.NumbersLeft.{numbers_left}
use Rattle.run_rules.specs.SurwChoice.{is_due_after, is_fresh}
use Rattle.run_rules.proofs.Intentions.{last-pushed, lefts-kept, lefts-more}
use Rattle.run_rules.proofs.Numbers.{made-more}
use Rattle.run_rules.proofs.Prefixes.{at-whole}

-- the last entry decides
due-more : (selection : List Pickable) (at_start : Bool) (journal : List Entry) (entry : Entry)
    → is_due_after selection at_start (journal ++ entry ∷ []) ≡ ends_intention selection entry
unfolding is_due_after
due-more selection at_start [] entry = refl
due-more selection at_start (first ∷ journal) entry = due-more selection (ends_intention selection first) journal entry

pub fresh-more : (selection : List Pickable) (journal : List Entry) (entry : Entry) (b : Bool) → ends_intention selection entry ≡ b
    → is_fresh selection (journal ++ entry ∷ []) ≡ b
fresh-more selection journal entry b is = due-more selection true journal entry ∙ is

-- no more is left after one entry more
pub left-less : (selection : List Pickable) (counts : List ℕ) (journal : List Entry) (entry : Entry)
    → sum (numbers_left selection counts (journal ++ entry ∷ [])) ≤ sum (numbers_left selection counts journal)
unfolding numbers_left
left-less selection counts journal entry =
    let late : ℕ × ℕ → ℕ = λ e. e.1 - events_made selection (journal ++ entry ∷ []) e.0 in
    let early : ℕ × ℕ → ℕ = λ e. e.1 - events_made selection journal e.0 in
    let less = sum_by-le-sum_by late early (enumerate_from 0 counts) (λ e. let more = made-more selection journal entry e.0 in omega (arith, more)) in
    omega (arith, less, sum-map late (enumerate_from 0 counts), sum-map early (enumerate_from 0 counts))

module _ (selection : List Pickable) (counts : List ℕ) where
  abbrev left_of : List Entry → List ℕ
  left_of journal = numbers_left selection counts journal

  abbrev lefts_of : List Entry → List (List ℕ)
  lefts_of journal = intention_lefts selection counts journal

  pub last-ended : (journal : List Entry) (entry : Entry) → ends_intention selection entry ≡ true
      → last_left (lefts_of (journal ++ entry ∷ [])) ≡ left_of (journal ++ entry ∷ [])
  last-ended journal entry end = ap last_left (lefts-more selection counts journal entry end) ∙ last-pushed (lefts_of journal) (left_of (journal ++ entry ∷ []))

  -- where an intention is due, it is drawn from what is left
  IsLast : List Entry → Type 0
  IsLast journal = is_fresh selection journal ≡ true → last_left (lefts_of journal) ≡ left_of journal

  last-none : IsLast []
  unfolding IsLast intention_lefts ending_prefixes
  last-none = λ fresh. refl

  last-more : (journal : List Entry) (entry : Entry) → IsLast journal → IsLast (journal ++ entry ∷ [])
  unfolding IsLast
  last-more journal entry before = λ fresh. elim (cases_Bool (ends_intention selection entry)) [
    | inl end ↦ last-ended journal entry end
    | inr no_end ↦ absurd (false≢true (sym (fresh-more selection journal entry false no_end) ∙ fresh))
  ]

  pub fresh-last : (journal : List Entry) → is_fresh selection journal ≡ true → last_left (lefts_of journal) ≡ left_of journal
  unfolding IsLast
  fresh-last journal = at-whole IsLast journal last-none (λ k entry at. last-more (take k journal) entry)

  -- and no more is left than there
  IsWithin : List Entry → Type 0
  IsWithin journal = sum (left_of journal) ≤ sum (last_left (lefts_of journal))

  within-none : IsWithin []
  unfolding IsWithin intention_lefts ending_prefixes
  within-none = omega arith

  within-more : (journal : List Entry) (entry : Entry) → IsWithin journal → IsWithin (journal ++ entry ∷ [])
  unfolding IsWithin
  within-more journal entry before = elim (cases_Bool (ends_intention selection entry)) [
    | inl end ↦ omega (arith, ap sum (last-ended journal entry end))
    | inr no_end ↦
        omega (arith, before, left-less selection counts journal entry, ap (λ lefts. sum (last_left lefts)) (lefts-kept selection counts journal entry no_end))
  ]

  pub left-within : (journal : List Entry) → sum (left_of journal) ≤ sum (last_left (lefts_of journal))
  unfolding IsWithin
  left-within journal = at-whole IsWithin journal within-none (λ k entry at. within-more (take k journal) entry)
