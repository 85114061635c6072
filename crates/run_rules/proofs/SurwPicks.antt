-- SURW's pick is its choice.
use Rattle.std.proofs.Common.{◌≡◌, ℕ, ◌+◌, ◌-◌, ◌≤◌, ◌&&◌, ltb, Bool, true, false, cond, Result, Ok, Err, IsOk, List, [], ◌∷◌, ◌++◌, drop, length, get_or, set, sum, Option, None, Some, refl, ap, sym, subst, ◌∙◌, inl, inr, arith}
use Rattle.std.proofs.lemmas.Bool.{cases_Bool, false≢true, le-ltb, ltb-false}
use Rattle.std.proofs.lemmas.List.{append-nil, get_or-drop, length-append}
use Rattle.draw_split.specs.Bag.{pick}
use Rattle.event_class.specs.declared.event.Event.{Event}
use Rattle.event_class.specs.Selection.{has}
use Rattle.seed_draws.specs.Answers.{without_first}
use Rattle.seed_draws.specs.declared.draw_fault.DrawFault.{DrawFault}
use Rattle.walk_rules.specs.declared.picked.Picked.TheVariants.{Grant}
use Rattle.walk_rules.specs.declared.seen.Seen.{Seen}
use Rattle.walk_rules.specs.State.{Memory, new_memory}
use Rattle.walk_rules.specs.Surw.{asks_intention, candidate_bounds, intention_bounds, intention_by, surw, surw_memory, surw_picked}
use Rattle.walk_rules.specs.Walk.{kept_after}
use Rattle.run_rules.specs.declared.entry.Entry.{Entry}
use Rattle.run_rules.specs.Bounds.{bounds_over}
use Rattle.run_rules.specs.Intention.{ends_intention, intended_after, picked_from}
use Rattle.run_rules.specs.NumbersLeft.{left_at}
use Rattle.run_rules.specs.Position.{Position, earlier, seen_at}
use Rattle.run_rules.specs.RuleChoice.{pick_with}
use Rattle.run_rules.specs.Setup.{Setup}
use Rattle.run_rules.specs.StepwisePicks.{PicksChoices, WereAnswered}
use Rattle.run_rules.specs.SurwChoice.{intended_or_none, is_fresh, is_due_after, surw_choice, surw_choices, surw_memory_at, surw_selected_at}
use Rattle.run_rules.proofs.DueIntentions.{fresh-last, fresh-more, left-within}
use Rattle.run_rules.proofs.IntentionSums.{found-none, found-some, intention_left, intentions_asked}
use Rattle.run_rules.proofs.Intentions.{intended-kept}

-- the bounds of a pick by what is fresh and whether some number is left
bounds-here : (fresh some_here some_there : Bool) (left : List ℕ) (found : Result (Option ℕ) DrawFault)
    → ltb 0 (sum left) ≡ some_here → (some_there ≡ false → some_here ≡ false)
    → (fresh ≡ false → some_there ≡ true → (thread : ℕ) × (found ≡ Ok (Some thread))) → (some_there ≡ false → found ≡ Ok None)
    → intention_bounds (cond fresh None (intended_or_none found)) left ≡ cond (fresh && ltb 0 (sum left)) (sum left ∷ []) []
bounds-here true some_here some_there left found here less some none = refl
bounds-here false some_here true left found here less some none =
    let one = some refl refl in ap (λ f. intention_bounds (intended_or_none f) left) one.1
bounds-here false some_here false left found here less some none =
    ap (λ f. intention_bounds (intended_or_none f) left) (none refl)
    ∙ ap (λ (b : Bool). cond b (sum left ∷ []) []) (here ∙ less refl)

nothing-left : (here there : ℕ) → here ≤ there → ltb 0 there ≡ false → ltb 0 here ≡ false
nothing-left here there less none = let bound = ltb-false 0 there none in le-ltb 0 here (omega (arith, bound, less))

found-here : (left : List ℕ) (n : ℕ) (r : Result (List ℕ) DrawFault) → IsOk r → (thread : ℕ) × (picked_from left (n - 1) r ≡ Ok (Some thread))
found-here left n (Ok draws) ok = (pick left (get_or draws (n - 1) 0), refl)
found-here left n (Err fault) ok = absurd (false≢true ok)

module _ (setup : Setup) (x : Position) (answered : WereAnswered surw_choices setup (earlier x)) where
  abbrev left : List ℕ
  left = left_at setup x

  abbrev fresh : Bool
  fresh = is_fresh setup.selection x.journal

  abbrev asked : List ℕ
  asked = bounds_over (surw_selected_at setup) (earlier x)

  no-bounds : fresh ≡ false → surw_selected_at setup x ≡ []
  no-bounds stale = ap (λ (b : Bool). cond (b && ltb 0 (sum left)) (sum left ∷ []) []) stale

  stale-ok : fresh ≡ false → IsOk (setup.selected.answers (intentions_asked setup x))
  stale-ok stale =
      subst (λ bounds. IsOk (setup.selected.answers bounds)) (sym (ap (λ bounds. asked ++ bounds) (no-bounds stale) ∙ append-nil asked)) answered.selected

  less-left : ltb 0 (sum (intention_left setup x)) ≡ false → ltb 0 (sum left) ≡ false
  less-left none = nothing-left (sum left) (sum (intention_left setup x)) (left-within setup.selection setup.counts x.journal) none

  stale-some : fresh ≡ false → ltb 0 (sum (intention_left setup x)) ≡ true → (thread : ℕ) × (intended_after setup x.journal ≡ Ok (Some thread))
  stale-some stale some =
      let found = found-here (intention_left setup x) (length (intentions_asked setup x)) (setup.selected.answers (intentions_asked setup x)) (stale-ok stale) in
      (found.0, found-some setup x some ∙ found.1)

  pub bounds-same : intention_bounds (surw_memory_at setup x).intended left ≡ surw_selected_at setup x
  bounds-same =
      bounds-here fresh (ltb 0 (sum left)) (ltb 0 (sum (intention_left setup x))) left (intended_after setup x.journal) refl less-left stale-some (found-none setup x)

  -- the answer at this position
  abbrev here : Result (List ℕ) DrawFault
  here = without_first (length asked) (setup.selected.answers (intentions_asked setup x))

  fresh-left : fresh ≡ true → intention_left setup x ≡ left
  fresh-left is = fresh-last setup.selection setup.counts x.journal is

  -- an intention that is drawn here: the answer is the last one
  drawn-here : (n : ℕ) (r : Result (List ℕ) DrawFault) → n ≡ length asked + 1 → ltb 0 (sum left) ≡ true
      → intention_by None left (without_first (length asked) r) ≡ picked_from left (n - 1) r
  drawn-here n (Ok draws) long some =
      ap (λ (b : Bool). Ok (cond b (Some (pick left (get_or (drop (length asked) draws) 0 0))) None)) some
      ∙ ap (λ d. Ok (Some (pick left d)))
      (get_or-drop (length asked) draws 0 0
      ∙ ap (λ m. get_or draws m 0) (omega (arith, long)))
  drawn-here n (Err fault) long some = refl

  kept-here : (intended : Option ℕ) (r : Result (List ℕ) DrawFault) → IsOk r → asks_intention intended left ≡ false
      → intention_by intended left (without_first (length asked) r) ≡ Ok intended
  kept-here intended (Ok draws) ok none = ap (λ (b : Bool). Ok (cond b (Some (pick left (get_or (drop (length asked) draws) 0 0))) intended)) none
  kept-here intended (Err fault) ok none = absurd (false≢true ok)

  memory-fresh : fresh ≡ true → (surw_memory_at setup x).intended ≡ None
  memory-fresh is = ap (λ (b : Bool). cond b None (intended_or_none (intended_after setup x.journal))) is

  memory-stale : fresh ≡ false → (found : Result (Option ℕ) DrawFault) → intended_after setup x.journal ≡ found
      → (surw_memory_at setup x).intended ≡ intended_or_none found
  memory-stale stale found is = ap (λ (b : Bool). cond b None (intended_or_none (intended_after setup x.journal))) stale ∙ ap intended_or_none is

  empty-ok : surw_selected_at setup x ≡ [] → IsOk (setup.selected.answers (intentions_asked setup x))
  empty-ok none =
      subst (λ bounds. IsOk (setup.selected.answers bounds)) (sym (ap (λ bounds. asked ++ bounds) none ∙ append-nil asked)) answered.selected

  intention-fresh : (b : Bool) → ltb 0 (sum left) ≡ b → fresh ≡ true → intention_by None left here ≡ intended_after setup x.journal
  intention-fresh true some is =
      let bounds : surw_selected_at setup x ≡ sum left ∷ [] =
      ap (λ (b : Bool). cond (b && ltb 0 (sum left)) (sum left ∷ []) []) is ∙ ap (λ (b : Bool). cond b (sum left ∷ []) []) some in
      let long : length (intentions_asked setup x) ≡ length asked + 1 = ap (λ bs. length (asked ++ bs)) bounds ∙ length-append asked (sum left ∷ []) in
      drawn-here (length (intentions_asked setup x)) (setup.selected.answers (intentions_asked setup x)) long some
      ∙ ap (λ l. picked_from l (length (intentions_asked setup x) - 1) (setup.selected.answers (intentions_asked setup x))) (sym (fresh-left is))
      ∙ sym (found-some setup x (ap (λ l. ltb 0 (sum l)) (fresh-left is) ∙ some))
  intention-fresh false none is =
      let bounds : surw_selected_at setup x ≡ [] =
      ap (λ (b : Bool). cond (b && ltb 0 (sum left)) (sum left ∷ []) []) is ∙ ap (λ (b : Bool). cond b (sum left ∷ []) []) none in
      kept-here None (setup.selected.answers (intentions_asked setup x)) (empty-ok bounds) none
      ∙ sym (found-none setup x (ap (λ l. ltb 0 (sum l)) (fresh-left is) ∙ none))

  intention-stale : (b : Bool) → ltb 0 (sum (intention_left setup x)) ≡ b → fresh ≡ false
      → intention_by (surw_memory_at setup x).intended left here ≡ intended_after setup x.journal
  intention-stale true some stale =
      let found = stale-some stale some in
      ap (λ intended. intention_by intended left here) (memory-stale stale (Ok (Some found.0)) found.1)
      ∙ kept-here (Some found.0) (setup.selected.answers (intentions_asked setup x)) (stale-ok stale) refl
      ∙ sym found.1
  intention-stale false none stale =
      ap (λ intended. intention_by intended left here) (memory-stale stale (Ok None) (found-none setup x none))
      ∙ kept-here None (setup.selected.answers (intentions_asked setup x)) (stale-ok stale) (less-left none)
      ∙ sym (found-none setup x none)

  -- the intention of the running walk, after the draw if there is one, is the one found from the whole list
  pub intention-same : intention_by (surw_memory_at setup x).intended left here ≡ intended_after setup x.journal
  intention-same = elim (cases_Bool fresh) [
    | inl is ↦
        ap (λ intended. intention_by intended left here) (memory-fresh is)
        ∙ intention-fresh (ltb 0 (sum left)) refl is
    | inr stale ↦ intention-stale (ltb 0 (sum (intention_left setup x))) refl stale
  ]

  -- as the pick finds it
  pub pick-found : intention_by (surw_memory_at setup x).intended left
      (without_first (length asked) (setup.selected.answers (asked ++ intention_bounds (surw_memory_at setup x).intended left))) ≡ intended_after setup x.journal
  pick-found =
      ap (λ bounds. intention_by (surw_memory_at setup x).intended left (without_first (length asked) (setup.selected.answers (asked ++ bounds)))) bounds-same
      ∙ intention-same

-- a choice that grants a step has an intention
granted-found : (view : List Seen) (found : Result (Option ℕ) DrawFault) (answer : Result (List ℕ) DrawFault) (thread : ℕ) (forced : Bool)
    → surw_picked view found answer ≡ Grant thread forced → (intended : Option ℕ) × (found ≡ Ok intended)
granted-found view (Ok intended) answer thread forced is = (intended, refl)
granted-found view (Err fault) answer thread forced is = cc

starts-none : (setup : Setup) (words : List (Option Event)) → surw_memory_at setup (record { journal = []; words = words }) ≡ record new_memory { intended = None }
unfolding is_due_after
starts-none setup words = refl

same-memory : (setup : Setup) (x y : Position) → x.journal ≡ y.journal → earlier x ≡ earlier y → surw_memory_at setup x ≡ surw_memory_at setup y
same-memory setup x y same again =
    (λ i. record new_memory { intended = cond (is_fresh setup.selection (same i)) None (intended_or_none (intended_after setup (same i))) })

keeps-met : (setup : Setup) (journal : List Entry) (entry : Entry) (before after : List (Option Event)) (b : Bool) (intended : Option ℕ)
    → ends_intention setup.selection entry ≡ b
    → set after entry.thread (Some entry.event) ≡ before
    → intended_after setup journal ≡ Ok intended
    → ◌≡◌ {A = Memory} (record new_memory { intended = cond (ends_intention setup.selection entry) None intended })
    (surw_memory_at setup (record { journal = journal ++ entry ∷ []; words = after }))
keeps-met setup journal entry before after true intended is word found =
    let y : Position = record { journal = journal ++ entry ∷ []; words = after } in
    ap (λ (b : Bool). record new_memory { intended = cond b None intended }) is
    ∙ sym (ap (λ (b : Bool). record new_memory { intended = cond b None (intended_or_none (intended_after setup y.journal)) })
    (fresh-more setup.selection journal entry true is))
keeps-met setup journal entry before after false intended is word found =
    let y : Position = record { journal = journal ++ entry ∷ []; words = after } in
    ap (λ (b : Bool). record new_memory { intended = cond b None intended }) is
    ∙ sym (ap (λ (b : Bool). record new_memory { intended = cond b None (intended_or_none (intended_after setup y.journal)) })
    (fresh-more setup.selection journal entry false is)
    ∙ ap (λ f. record new_memory { intended = intended_or_none f }) (intended-kept setup journal entry is ∙ found))

keeps-intention : (setup : Setup) (journal : List Entry) (entry : Entry) (before after : List (Option Event))
    → set after entry.thread (Some entry.event) ≡ before
    → WereAnswered surw_choices setup (earlier (record { journal = journal; words = before }))
    → surw_choice setup (record { journal = journal; words = before }) ≡ Grant entry.thread entry.forced
    → kept_after (pick_with surw surw_choices setup (record { journal = journal; words = before })).memory (has setup.selection entry.event) entry.forced
    ≡ surw_memory_at setup (record { journal = journal ++ entry ∷ []; words = after })
unfolding surw_choice
keeps-intention setup journal entry before after word answered chosen =
    let x : Position = record { journal = journal; words = before } in
    let found = granted-found (seen_at setup x) (intended_after setup x.journal) _ entry.thread entry.forced chosen in
    ap (λ f. kept_after (surw_memory (surw_memory_at setup x) f) (has setup.selection entry.event) entry.forced) (pick-found setup x answered ∙ found.1)
    ∙ keeps-met setup journal entry before after (ends_intention setup.selection entry) found.0 refl word found.1

picks-choice : (setup : Setup) (x : Position) → WereAnswered surw_choices setup (earlier x) → (pick_with surw surw_choices setup x).picked ≡ surw_choice setup x
unfolding surw_choice
picks-choice setup x answered = ap (λ f. surw_picked (seen_at setup x) f (without_first (length (bounds_over (surw_choices.other_at setup) (earlier x)))
    (setup.other.answers (bounds_over (surw_choices.other_at setup) (earlier x) ++ surw_bounds f)))) (pick-found setup x answered) where
      surw_bounds : Result (Option ℕ) DrawFault → List ℕ
      surw_bounds f = candidate_bounds (seen_at setup x) f

pub surw-picks : PicksChoices surw surw_choices
surw-picks = record {
  asks_selected = λ setup x answered. bounds-same setup x answered;
  asks_other = λ setup x answered. ap (λ f. candidate_bounds (seen_at setup x) f) (pick-found setup x answered);
  picks = picks-choice;
  starts = starts-none;
  ignores_words = same-memory;
  keeps = keeps-intention;
}
