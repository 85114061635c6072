-- PCT's pick is its choice.
use Rattle.std.proofs.Common.{◌≡◌, ℕ, ◌==◌, Bool, true, false, cond, Result, Ok, Err, IsOk, List, [], ◌∷◌, ◌++◌, drop, length, map, set, Option, None, Some, refl, ap, sym, subst, ◌∙◌, inl, inr, arith}
use Rattle.std.proofs.lemmas.Bool.{cases_Bool, eqb-true, false≢true, ne_eqb}
use Rattle.std.proofs.lemmas.List.{append-nil, length-append, flat_map_more}
use Rattle.std.specs.List.{range_with_len}
use Rattle.event_class.specs.declared.event.Event.{Event}
use Rattle.event_class.specs.Selection.{has}
use Rattle.seed_draws.specs.Answers.{without_first}
use Rattle.seed_draws.specs.declared.draw_fault.DrawFault.{DrawFault}
use Rattle.walk_rules.specs.declared.picked.Picked.TheVariants.{Grant}
use Rattle.walk_rules.specs.declared.seen.Seen.{Seen}
use Rattle.walk_rules.specs.Pct.{first_memory, lowered, pct, pct_asked, pct_bounds, pct_found, pct_memory, pct_picked}
use Rattle.walk_rules.specs.State.{Memory, new_memory}
use Rattle.walk_rules.specs.Walk.{kept_after}
use Rattle.run_rules.specs.declared.entry.Entry.{Entry}
use Rattle.run_rules.specs.Bounds.{bounds_over}
use Rattle.run_rules.specs.PctChoice.{lowered_over, memory_or_new, pct_bounds_so_far, pct_choice, pct_choices, pct_found_at, pct_memory_at, pct_selected_at, with_draws}
use Rattle.run_rules.specs.Position.{Position, earlier, position_at, seen_at}
use Rattle.run_rules.specs.RuleChoice.{pick_with, walk_with}
use Rattle.run_rules.specs.Setup.{Setup}
use Rattle.run_rules.specs.StepwisePicks.{PicksChoices, WereAnswered}
use Rattle.run_rules.proofs.EarlierPositions.{earlier-more}
use Rattle.run_rules.proofs.UrwPicks.{kept-same}

lowered-more : (setup : Setup) (memory : Memory) (xs : List Position) (x : Position)
    → lowered_over setup memory (xs ++ x ∷ []) ≡ lowered (length x.journal) (seen_at setup x) (lowered_over setup memory xs)
unfolding lowered_over
lowered-more setup memory [] x = refl
lowered-more setup memory (y ∷ ys) x = lowered-more setup (lowered (length y.journal) (seen_at setup y) memory) ys x

none-intended : (setup : Setup) (memory : Memory) (xs : List Position) → memory.intended ≡ None → (lowered_over setup memory xs).intended ≡ None
unfolding lowered_over
none-intended setup memory [] none = none
none-intended setup memory (x ∷ xs) none = none-intended setup (lowered (length x.journal) (seen_at setup x) memory) xs none

first-none : (depth : ℕ) (counts draws : List ℕ) → (first_memory depth counts draws).intended ≡ None
unfolding first_memory
first-none depth counts draws = refl

earlier-none : (x : Position) → length x.journal ≡ 0 → earlier x ≡ []
unfolding earlier
earlier-none x none = ap (λ n. map (position_at x) (range_with_len 0 n)) none

module _ (depth : ℕ) (setup : Setup) (x : Position) (answered : WereAnswered (pct_choices depth) setup (earlier x)) where
  abbrev asked : List ℕ
  asked = bounds_over (pct_selected_at depth setup) (earlier x)

  abbrev answer : Result (List ℕ) DrawFault
  answer = without_first (length asked) (setup.selected.answers (pct_bounds_so_far depth setup x))

  first-found : (n : ℕ) (xs : List Position) (memory : Memory) (r : Result (List ℕ) DrawFault) (b : Bool) → b ≡ true → n ≡ 0 → xs ≡ []
      → pct_found depth (record (walk_with (pct depth) (pct_choices depth) setup x) { steps = 0; memory = memory }) (without_first n r) ≡ with_draws depth setup xs r
  unfolding lowered_over
  first-found n xs memory (Ok draws) b is none empty =
      ap (λ m. pct_found depth (record (walk_with (pct depth) (pct_choices depth) setup x) { steps = 0; memory = memory }) (without_first m (Ok draws))) none
      ∙ ap (λ ys. with_draws depth setup ys (Ok draws)) (sym empty)
  first-found n xs memory (Err fault) b is none empty = refl

  later-found : (steps n : ℕ) (memory : Memory) (r : Result (List ℕ) DrawFault) → IsOk r → (steps == 0) ≡ false
      → pct_found depth (record (walk_with (pct depth) (pct_choices depth) setup x) { steps = steps; memory = memory }) (without_first n r) ≡ Ok memory
  later-found steps n memory (Ok draws) ok later = ap (λ (b : Bool). Ok (cond b (first_memory depth setup.counts (drop n draws)) memory)) later
  later-found steps n memory (Err fault) ok later = absurd (false≢true ok)

  found-ok : (r : Result (List ℕ) DrawFault) → IsOk r → with_draws depth setup (earlier x) r ≡ Ok (memory_or_new (with_draws depth setup (earlier x) r))
  found-ok (Ok draws) ok = refl
  found-ok (Err fault) ok = absurd (false≢true ok)

  -- the priorities of the running walk are those found from the whole list
  pub found-same : pct_found depth (walk_with (pct depth) (pct_choices depth) setup x) answer ≡ pct_found_at depth setup x
  unfolding pct_found_at
  found-same = elim (cases_Bool (length x.journal == 0)) [
    | inl first ↦
        let zero_steps : length x.journal ≡ 0 = eqb-true (length x.journal) 0 first in
        let empty : earlier x ≡ [] = earlier-none x zero_steps in
        ap (λ n. pct_found depth (record (walk_with (pct depth) (pct_choices depth) setup x) { steps = n }) answer) zero_steps
        ∙ first-found (length asked) (earlier x) (pct_memory_at depth setup x) (setup.selected.answers (pct_bounds_so_far depth setup x)) true refl
        (ap (λ xs. length (bounds_over (pct_selected_at depth setup) xs)) empty) empty
    | inr later ↦
        let none : pct_selected_at depth setup x ≡ [] = ap (λ (b : Bool). cond b (pct_bounds depth setup.counts) []) later in
        let ok : IsOk (setup.selected.answers (pct_bounds_so_far depth setup x)) =
        subst (λ bounds. IsOk (setup.selected.answers bounds)) (sym (ap (λ bounds. asked ++ bounds) none ∙ append-nil asked)) answered.selected in
        later-found (length x.journal) (length asked) (pct_memory_at depth setup x) (setup.selected.answers (pct_bounds_so_far depth setup x)) ok later
        ∙ ap (λ (b : Bool). Ok (cond b new_memory (memory_or_new (pct_found_at depth setup x)))) later
        ∙ sym (found-ok (setup.selected.answers (pct_bounds_so_far depth setup x)) ok)
  ]

-- a choice that grants a step has priorities, and keeps no intention
granted-found : (step : ℕ) (view : List Seen) (found : Result Memory DrawFault) (thread : ℕ) (forced : Bool)
    → pct_picked step view found ≡ Grant thread forced → (memory : Memory) × (found ≡ Ok memory)
granted-found step view (Ok memory) thread forced is = (memory, refl)
granted-found step view (Err fault) thread forced is = cc

found-none : (depth : ℕ) (setup : Setup) (xs : List Position) (r : Result (List ℕ) DrawFault) (memory : Memory) → with_draws depth setup xs r ≡ Ok memory
    → memory.intended ≡ None
found-none depth setup xs (Ok draws) memory is =
    let same : lowered_over setup (first_memory depth setup.counts draws) xs ≡ memory = cc in
    ap (λ m. m.intended) (sym same) ∙ none-intended setup (first_memory depth setup.counts draws) xs (first-none depth setup.counts draws)
found-none depth setup xs (Err fault) memory is = cc

more-draws : (depth : ℕ) (setup : Setup) (xs : List Position) (x : Position) (r : Result (List ℕ) DrawFault) (memory : Memory) → with_draws depth setup xs r ≡ Ok memory
    → with_draws depth setup (xs ++ x ∷ []) r ≡ Ok (lowered (length x.journal) (seen_at setup x) memory)
more-draws depth setup xs x (Ok draws) memory is =
    let same : lowered_over setup (first_memory depth setup.counts draws) xs ≡ memory = cc in
    ap Ok (lowered-more setup (first_memory depth setup.counts draws) xs x ∙ ap (lowered (length x.journal) (seen_at setup x)) same)
more-draws depth setup xs x (Err fault) memory is = cc

-- after an entry the priorities are those after the changes before it
found-more : (depth : ℕ) (setup : Setup) (journal : List Entry) (entry : Entry) (before after : List (Option Event)) (memory : Memory)
    → set after entry.thread (Some entry.event) ≡ before
    → pct_found_at depth setup (record { journal = journal; words = before }) ≡ Ok memory
    → pct_memory_at depth setup (record { journal = journal ++ entry ∷ []; words = after })
    ≡ lowered (length journal) (seen_at setup (record { journal = journal; words = before })) memory
unfolding pct_found_at
found-more depth setup journal entry before after memory word found =
    let x : Position = record { journal = journal; words = before } in
    let y : Position = record { journal = journal ++ entry ∷ []; words = after } in
    let later : (length (journal ++ entry ∷ []) == 0) ≡ false =
    ne_eqb (length (journal ++ entry ∷ [])) 0 (λ e. absurd (omega (arith, e, length-append journal (entry ∷ [])))) in
    let again : earlier y ≡ earlier x ++ x ∷ [] = earlier-more journal entry before after word in
    let none : pct_selected_at depth setup y ≡ [] = ap (λ (b : Bool). cond b (pct_bounds depth setup.counts) []) later in
    let bounds : pct_bounds_so_far depth setup y ≡ pct_bounds_so_far depth setup x =
    ap (λ bs. bounds_over (pct_selected_at depth setup) (earlier y) ++ bs) none
    ∙ append-nil (bounds_over (pct_selected_at depth setup) (earlier y))
    ∙ ap (bounds_over (pct_selected_at depth setup)) again
    ∙ sym (flat_map_more (pct_selected_at depth setup) [] (earlier x) x) in
    ap (λ (b : Bool). cond b new_memory (memory_or_new (pct_found_at depth setup y))) later
    ∙ (λ i. memory_or_new (with_draws depth setup (again i) (setup.selected.answers (bounds i))))
    ∙ ap memory_or_new (more-draws depth setup (earlier x) x (setup.selected.answers (pct_bounds_so_far depth setup x)) memory found)

keeps-priorities : (depth : ℕ) (setup : Setup) (journal : List Entry) (entry : Entry) (before after : List (Option Event))
    → set after entry.thread (Some entry.event) ≡ before
    → WereAnswered (pct_choices depth) setup (earlier (record { journal = journal; words = before }))
    → pct_choice depth setup (record { journal = journal; words = before }) ≡ Grant entry.thread entry.forced
    → kept_after (pick_with (pct depth) (pct_choices depth) setup (record { journal = journal; words = before })).memory (has setup.selection entry.event) entry.forced
    ≡ pct_memory_at depth setup (record { journal = journal ++ entry ∷ []; words = after })
unfolding pct_choice pct_found_at
keeps-priorities depth setup journal entry before after word answered chosen =
    let x : Position = record { journal = journal; words = before } in
    let found = granted-found (length journal) (seen_at setup x) (pct_found_at depth setup x) entry.thread entry.forced chosen in
    let none = found-none depth setup (earlier x) (setup.selected.answers (pct_bounds_so_far depth setup x)) found.0 found.1 in
    ap (λ f. kept_after (pct_memory (length journal) (seen_at setup x) (pct_memory_at depth setup x) f) (has setup.selection entry.event) entry.forced)
    (found-same depth setup x answered ∙ found.1)
    ∙ kept-same (lowered (length journal) (seen_at setup x) found.0) (has setup.selection entry.event) entry.forced none
    ∙ sym (found-more depth setup journal entry before after found.0 word found.1)

picks-choice : (depth : ℕ) (setup : Setup) (x : Position) → WereAnswered (pct_choices depth) setup (earlier x)
    → (pick_with (pct depth) (pct_choices depth) setup x).picked ≡ pct_choice depth setup x
unfolding pct_choice
picks-choice depth setup x answered = ap (λ f. pct_picked (length x.journal) (seen_at setup x) f) (found-same depth setup x answered)

same-memory : (depth : ℕ) (setup : Setup) (x y : Position) → x.journal ≡ y.journal → earlier x ≡ earlier y → pct_memory_at depth setup x ≡ pct_memory_at depth setup y
unfolding pct_found_at
same-memory depth setup x y same again =
    (λ i. cond (length (same i) == 0) new_memory (memory_or_new (with_draws depth setup (again i)
    (setup.selected.answers (bounds_over (pct_selected_at depth setup) (again i) ++ pct_asked depth (length (same i)) setup.counts)))))

pub pct-picks : (depth : ℕ) → PicksChoices (pct depth) (pct_choices depth)
pct-picks depth = record {
  asks_selected = λ setup x answered. refl;
  asks_other = λ setup x answered. refl;
  picks = picks-choice depth;
  starts = λ setup words. refl;
  ignores_words = same-memory depth;
  keeps = keeps-priorities depth;
}
