-- The sums that the intended thread rests on are those that were asked at the positions up to it.
use Rattle.std.proofs.Common.{◌≡◌, ℕ, ◌+◌, ◌-◌, ◌==◌, ◌&&◌, ◌<◌, ltb, Bool, true, false, cond, List, [], ◌∷◌, ◌++◌, length, map, flat_map, take, sum, None, Ok, refl, ap, sym, ◌∙◌, inl, inr, arith}
use Rattle.std.proofs.Math.Seq.{take-length}
use Rattle.std.proofs.lemmas.Bool.{cases_Bool, cond-true, cond-false, eq-eqb, ne_eqb, lt-ltb, ltb-true, ltb-false}
use Rattle.std.proofs.lemmas.List.{append-nil, map-append, length-map, take-append-le, length-append, flat_map_more}
use Rattle.std.proofs.lemmas.List.Elements.{filter-append}
use Rattle.std.proofs.lemmas.List.FromFn.{map-range_with_len_more}
use Rattle.std.specs.List.{filter, range_with_len}
use Rattle.event_class.specs.declared.pickable.Pickable.{Pickable}
use Rattle.run_rules.specs.declared.entry.Entry.{Entry}
use Rattle.run_rules.specs.Bounds.{bounds_over}
use Rattle.run_rules.specs.Intention.{ends_intention, ending_prefixes, intention_lefts, intended_after, last_left, picked_from}
use Rattle.run_rules.specs.NumbersLeft.{numbers_left}
use Rattle.run_rules.specs.Position.{Position, earlier, position_at}
use Rattle.run_rules.specs.Setup.{Setup}
use Rattle.run_rules.specs.SurwChoice.{is_due_after, is_fresh, surw_selected_at}
use Rattle.run_rules.proofs.DueIntentions.{fresh-more, left-less, left-within}
use Rattle.run_rules.proofs.EarlierPositions.{map-range-same}
use Rattle.run_rules.proofs.Intentions.{last-pushed, lefts-kept, lefts-more}
use Rattle.run_rules.proofs.Prefixes.{at-whole}

-- ---- the sums that are positive

abbrev positive_sums : List (List ℕ) → List ℕ
positive_sums lefts = filter (λ n. ltb 0 n) (map sum lefts)

positive-more : (lefts : List (List ℕ)) (left : List ℕ) → positive_sums (lefts ++ left ∷ []) ≡ positive_sums lefts ++ cond (ltb 0 (sum left)) (sum left ∷ []) []
positive-more lefts left = ap (filter (λ n. ltb 0 n)) (map-append sum lefts (left ∷ [])) ∙ filter-append (λ n. ltb 0 n) (map sum lefts) (sum left ∷ [])

module _ (selection : List Pickable) (counts : List ℕ) where
  abbrev left_of : List Entry → List ℕ
  left_of journal = numbers_left selection counts journal

  abbrev lefts_of : List Entry → List (List ℕ)
  lefts_of journal = intention_lefts selection counts journal

  -- where something is left at the last, all sums are positive
  ArePositive : List Entry → Type 0
  ArePositive journal = 0 < sum (last_left (lefts_of journal)) → positive_sums (lefts_of journal) ≡ map sum (lefts_of journal)

  positive-none : ArePositive []
  unfolding ArePositive intention_lefts ending_prefixes
  positive-none = λ some. ap (λ (b : Bool). cond b (sum (left_of []) ∷ []) []) (lt-ltb 0 (sum (left_of [])) some)

  positive-next : (journal : List Entry) (entry : Entry) → ArePositive journal → ArePositive (journal ++ entry ∷ [])
  unfolding ArePositive
  positive-next journal entry before = λ some. elim (cases_Bool (ends_intention selection entry)) [
    | inl end ↦
        let left : List ℕ = left_of (journal ++ entry ∷ []) in
        let lefts = lefts-more selection counts journal entry end in
        let last : sum (last_left (lefts_of (journal ++ entry ∷ []))) ≡ sum left =
        ap (λ l. sum (last_left l)) lefts ∙ ap sum (last-pushed (lefts_of journal) left) in
        let here : 0 < sum left = omega (arith, some, last) in
        let early : 0 < sum (last_left (lefts_of journal)) = omega (arith, here, left-less selection counts journal entry, left-within selection counts journal) in
        ap positive_sums lefts
        ∙ positive-more (lefts_of journal) left
        ∙ (λ i. before early i ++ cond (lt-ltb 0 (sum left) here i) (sum left ∷ []) [])
        ∙ sym (ap (map sum) lefts ∙ map-append sum (lefts_of journal) (left ∷ []))
    | inr no_end ↦
        let lefts = lefts-kept selection counts journal entry no_end in
        let last : sum (last_left (lefts_of (journal ++ entry ∷ []))) ≡ sum (last_left (lefts_of journal)) = ap (λ l. sum (last_left l)) lefts in
        ap positive_sums lefts ∙ before (omega (arith, some, last)) ∙ sym (ap (map sum) lefts)
  ]

  pub all-positive : (journal : List Entry) → 0 < sum (last_left (lefts_of journal)) → positive_sums (lefts_of journal) ≡ map sum (lefts_of journal)
  unfolding ArePositive
  all-positive journal = at-whole ArePositive journal positive-none (λ k entry at. positive-next (take k journal) entry)

  -- ---- what was asked

  abbrev ask : List Entry → List ℕ
  ask journal = cond (is_fresh selection journal && ltb 0 (sum (left_of journal))) (sum (left_of journal) ∷ []) []

  -- one entry more asks what it says
  sums-more : (journal : List Entry) (entry : Entry) → positive_sums (lefts_of (journal ++ entry ∷ [])) ≡ positive_sums (lefts_of journal) ++ ask (journal ++ entry ∷ [])
  sums-more journal entry =
      let left : List ℕ = left_of (journal ++ entry ∷ []) in
      elim (cases_Bool (ends_intention selection entry)) [
        | inl end ↦
            ap positive_sums (lefts-more selection counts journal entry end)
            ∙ positive-more (lefts_of journal) left
            ∙ ap (λ (b : Bool). positive_sums (lefts_of journal) ++ cond (b && ltb 0 (sum left)) (sum left ∷ []) []) (sym (fresh-more selection journal entry true end))
        | inr no_end ↦
            ap positive_sums (lefts-kept selection counts journal entry no_end)
            ∙ sym (append-nil (positive_sums (lefts_of journal)))
            ∙ ap (λ (b : Bool). positive_sums (lefts_of journal) ++ cond (b && ltb 0 (sum left)) (sum left ∷ []) [])
            (sym (fresh-more selection journal entry false no_end))
      ]

  -- what is asked after each of so many prefixes
  abbrev asked_prefixes : List Entry → ℕ → List ℕ
  asked_prefixes journal n = flat_map ask (map (λ k. take k journal) (range_with_len 0 n))

  prefixes-of-more : (journal : List Entry) (entry : Entry)
      → map (λ k. take k (journal ++ entry ∷ [])) (range_with_len 0 (length (journal ++ entry ∷ []) + 1))
      ≡ map (λ k. take k journal) (range_with_len 0 (length journal + 1)) ++ (journal ++ entry ∷ []) ∷ []
  prefixes-of-more journal entry =
      let longer : List Entry = journal ++ entry ∷ [] in
      map-range_with_len_more (λ k. take k longer) 0 (length longer) (length longer) (omega arith)
      ∙ ap (λ prefix. map (λ k. take k longer) (range_with_len 0 (length longer)) ++ prefix ∷ []) (take-length longer)
      ∙ ap (λ n. map (λ k. take k longer) (range_with_len 0 n) ++ longer ∷ []) (length-append journal (entry ∷ []))
      ∙ ap (λ prefixes. prefixes ++ longer ∷ [])
      (map-range-same (λ k. take k longer) (λ k. take k journal) (length journal + 1) (λ k below. take-append-le k journal (entry ∷ []) (omega (arith, below))))

  AreAsked : List Entry → Type 0
  AreAsked journal = positive_sums (lefts_of journal) ≡ asked_prefixes journal (length journal + 1)

  sums-none : AreAsked []
  unfolding AreAsked intention_lefts ending_prefixes is_due_after
  sums-none = sym (append-nil (cond (ltb 0 (sum (left_of []))) (sum (left_of []) ∷ []) []))

  sums-next : (journal : List Entry) (entry : Entry) → AreAsked journal → AreAsked (journal ++ entry ∷ [])
  unfolding AreAsked
  sums-next journal entry are =
      let prefixes : List (List Entry) = map (λ k. take k journal) (range_with_len 0 (length journal + 1)) in
      sums-more journal entry
      ∙ ap (λ asked. asked ++ ask (journal ++ entry ∷ [])) are
      ∙ flat_map_more ask [] prefixes (journal ++ entry ∷ [])
      ∙ ap (flat_map ask) (sym (prefixes-of-more journal entry))

  sums-asked : (journal : List Entry) → positive_sums (lefts_of journal) ≡ flat_map ask (map (λ k. take k journal) (range_with_len 0 (length journal))) ++ ask journal
  unfolding AreAsked
  sums-asked journal =
      let n : ℕ = length journal in
      let prefixes : List (List Entry) = map (λ k. take k journal) (range_with_len 0 n) in
      at-whole AreAsked journal sums-none (λ k entry at. sums-next (take k journal) entry)
      ∙ ap (flat_map ask) (map-range_with_len_more (λ k. take k journal) 0 n n (omega arith) ∙ ap (λ prefix. prefixes ++ prefix ∷ []) (take-length journal))
      ∙ sym (flat_map_more ask [] prefixes journal)

-- by positions
flat-positions : (ask : List Entry → List ℕ) (x : Position) (ks : List ℕ)
    → flat_map (λ y. ask y.journal) (map (position_at x) ks) ≡ flat_map ask (map (λ k. take k x.journal) ks)
unfolding position_at
flat-positions ask x [] = refl
flat-positions ask x (k ∷ ks) = ap (λ rest. ask (take k x.journal) ++ rest) (flat-positions ask x ks)

-- ---- the intended thread, by what was asked

-- the numbers left where the intention was drawn
abbrev pub intention_left : Setup → Position → List ℕ
intention_left setup x = last_left (intention_lefts setup.selection setup.counts x.journal)

-- the bounds of all intentions so far
abbrev pub intentions_asked : Setup → Position → List ℕ
intentions_asked setup x = bounds_over (surw_selected_at setup) (earlier x) ++ surw_selected_at setup x

module _ (setup : Setup) (x : Position) where
  abbrev lefts : List (List ℕ)
  lefts = intention_lefts setup.selection setup.counts x.journal

  asked-are : 0 < sum (last_left lefts) → map sum lefts ≡ intentions_asked setup x
  unfolding earlier
  asked-are some =
      sym (all-positive setup.selection setup.counts x.journal some)
      ∙ sums-asked setup.selection setup.counts x.journal
      ∙ ap (λ asked. asked ++ surw_selected_at setup x) (sym (flat-positions (ask setup.selection setup.counts) x (range_with_len 0 (length x.journal))))

  -- it is picked by the last answer of all
  pub found-some : ltb 0 (sum (intention_left setup x)) ≡ true
      → intended_after setup x.journal ≡ picked_from (intention_left setup x) (length (intentions_asked setup x) - 1) (setup.selected.answers (intentions_asked setup x))
  unfolding intended_after
  found-some some =
      let there : 0 < sum (last_left lefts) = ltb-true 0 (sum (last_left lefts)) some in
      let are = asked-are there in
      let long : length lefts - 1 ≡ length (intentions_asked setup x) - 1 = ap (λ n. n - 1) (sym (length-map lefts sum) ∙ ap (λ (bounds : List ℕ). length bounds) are) in
      cond-false (sum (last_left lefts) == 0) (Ok None) (picked_from (last_left lefts) (length lefts - 1) (setup.selected.answers (map sum lefts)))
      (ne_eqb (sum (last_left lefts)) 0 (omega (arith, there)))
      ∙ (λ i. picked_from (last_left lefts) (long i) (setup.selected.answers (are i)))

  pub found-none : ltb 0 (sum (intention_left setup x)) ≡ false → intended_after setup x.journal ≡ Ok None
  unfolding intended_after
  found-none none =
      cond-true (sum (last_left lefts) == 0) (Ok None) (picked_from (last_left lefts) (length lefts - 1) (setup.selected.answers (map sum lefts)))
      (eq-eqb (sum (last_left lefts)) 0 (omega (arith, ltb-false 0 (sum (last_left lefts)) none)))
