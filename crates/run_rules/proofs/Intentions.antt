-- The intentions of a journal with one entry more.
use Rattle.std.proofs.Common.{◌≡◌, ℕ, ◌-◌, ◌==◌, ◌<◌, Bool, true, false, cond, List, [], ◌∷◌, ◌++◌, length, map, sum, get_or, Option, None, Some, Result, Ok, Err, refl, ap, sym, ◌∙◌, inl, inr, arith}
use Rattle.std.proofs.lemmas.Bool.{cases_eq, eq-eqb, ne_eqb}
use Rattle.std.proofs.lemmas.List.{append_assoc, append-nil, map-append, length_push, get_or_push}
use Rattle.event_class.specs.declared.pickable.Pickable.{Pickable}
use Rattle.draw_split.specs.Bag.{pick}
use Rattle.seed_draws.specs.declared.draw_fault.DrawFault.{DrawFault}
use Rattle.run_rules.specs.declared.entry.Entry.{Entry}
use Rattle.run_rules.specs.Intention.{ends_intention, ending_prefixes, intention_lefts, last_left, picked_from, intended_by, intended_after}
use Rattle.run_rules.specs.NumbersLeft.{numbers_left}
use Rattle.run_rules.specs.Setup.{Setup}

-- the prefixes of a journal with one entry more: the same, and the whole where the entry ends the intention
prefixes-more : (selection : List Pickable) (before journal : List Entry) (entry : Entry)
    → ending_prefixes selection before (journal ++ entry ∷ [])
    ≡ ending_prefixes selection before journal ++ cond (ends_intention selection entry) ((before ++ (journal ++ entry ∷ [])) ∷ []) []
unfolding ending_prefixes
prefixes-more selection before [] entry = append-nil (cond (ends_intention selection entry) ((before ++ entry ∷ []) ∷ []) [])
prefixes-more selection before (first ∷ journal) entry =
    let here : List (List Entry) = cond (ends_intention selection first) ((before ++ first ∷ []) ∷ []) [] in
    let last : List Entry → List (List Entry) = λ prefix. cond (ends_intention selection entry) (prefix ∷ []) [] in
    ap (λ later. here ++ later) (prefixes-more selection (before ++ first ∷ []) journal entry)
    ∙ sym (append_assoc here (ending_prefixes selection (before ++ first ∷ []) journal) (last ((before ++ first ∷ []) ++ (journal ++ entry ∷ []))))
    ∙ ap (λ prefix. (here ++ ending_prefixes selection (before ++ first ∷ []) journal) ++ last prefix) (append_assoc before (first ∷ []) (journal ++ entry ∷ []))

-- an entry that doesn't end the intention draws none
pub lefts-kept : (selection : List Pickable) (counts : List ℕ) (journal : List Entry) (entry : Entry) → ends_intention selection entry ≡ false
    → intention_lefts selection counts (journal ++ entry ∷ []) ≡ intention_lefts selection counts journal
unfolding intention_lefts
lefts-kept selection counts journal entry no_end =
    let left : List Entry → List ℕ = numbers_left selection counts in
    ap (λ prefixes. left [] ∷ map left prefixes)
    (prefixes-more selection [] journal entry
    ∙ ap (λ (b : Bool). ending_prefixes selection [] journal ++ cond b ((journal ++ entry ∷ []) ∷ []) []) no_end
    ∙ append-nil (ending_prefixes selection [] journal))

-- one that ends it draws one from the numbers left after it
pub lefts-more : (selection : List Pickable) (counts : List ℕ) (journal : List Entry) (entry : Entry) → ends_intention selection entry ≡ true
    → intention_lefts selection counts (journal ++ entry ∷ []) ≡ intention_lefts selection counts journal ++ numbers_left selection counts (journal ++ entry ∷ []) ∷ []
unfolding intention_lefts
lefts-more selection counts journal entry end =
    let left : List Entry → List ℕ = numbers_left selection counts in
    ap (λ prefixes. left [] ∷ map left prefixes)
    (prefixes-more selection [] journal entry
    ∙ ap (λ (b : Bool). ending_prefixes selection [] journal ++ cond b ((journal ++ entry ∷ []) ∷ []) []) end)
    ∙ ap (λ later. left [] ∷ later) (map-append left (ending_prefixes selection [] journal) ((journal ++ entry ∷ []) ∷ []))

-- ---- the intended thread, where the last of the lists is known

pub last-pushed : (before : List (List ℕ)) (left : List ℕ) → last_left (before ++ left ∷ []) ≡ left
last-pushed before left =
    let one : length (before ++ left ∷ []) - 1 ≡ length before = omega (arith, length_push before left) in
    ap (λ n. get_or (before ++ left ∷ []) n []) one ∙ get_or_push before left [] (length before) refl

-- a thread is intended by a draw: the answer to the last sum
pub record IsIntendedBy (answers : List ℕ → Result (List ℕ) DrawFault) (before : List (List ℕ)) (left : List ℕ) (thread : ℕ) : Type 0 where
  pub draws : List ℕ
  pub answered : answers (map sum before ++ sum left ∷ []) ≡ Ok draws
  pub some : 0 < sum left
  pub picked : pick left (get_or draws (length before) 0) ≡ thread

by-answer : (answers : List ℕ → Result (List ℕ) DrawFault) (before : List (List ℕ)) (left : List ℕ) (thread : ℕ) (answer : Result (List ℕ) DrawFault)
    → answers (map sum before ++ sum left ∷ []) ≡ answer → 0 < sum left
    → picked_from left (length before) answer ≡ Ok (Some thread) → IsIntendedBy answers before left thread
by-answer answers before left thread (Ok draws) answered some picked =
    record { draws = draws; answered = answered; some = some; picked = cc }
by-answer answers before left thread (Err fault) answered some picked = cc

-- what is intended, by the lists before the last one and that one
pub intended-pushed : (answers : List ℕ → Result (List ℕ) DrawFault) (before : List (List ℕ)) (left : List ℕ)
    → intended_by answers (before ++ left ∷ [])
    ≡ cond (sum left == 0) (Ok None) (picked_from left (length before) (answers (map sum before ++ sum left ∷ [])))
intended-pushed answers before left =
    let one : length (before ++ left ∷ []) - 1 ≡ length before = omega (arith, length_push before left) in
    let last : last_left (before ++ left ∷ []) ≡ left = last-pushed before left in
    (λ i. cond (sum (last i) == 0) (Ok None)
    (picked_from (last i) (one i) (answers (map-append sum before (left ∷ []) i))))

pub intended-draw : (answers : List ℕ → Result (List ℕ) DrawFault) (before : List (List ℕ)) (left : List ℕ) (thread : ℕ)
    → intended_by answers (before ++ left ∷ []) ≡ Ok (Some thread) → IsIntendedBy answers before left thread
intended-draw answers before left thread is =
    let answer : Result (List ℕ) DrawFault = answers (map sum before ++ sum left ∷ []) in
    let from : Result (Option ℕ) DrawFault = picked_from left (length before) answer in
    let cut : cond (sum left == 0) (Ok None) from ≡ Ok (Some thread) = sym (intended-pushed answers before left) ∙ is in
    elim (cases_eq (sum left) 0) [
      | inl none ↦ let no : Ok None ≡ Ok (Some thread) = ap (λ (b : Bool). cond b (Ok None) from) (sym (eq-eqb (sum left) 0 none)) ∙ cut in cc
      | inr some ↦ by-answer answers before left thread answer refl (omega (arith, some))
          (ap (λ (b : Bool). cond b (Ok None) from) (sym (ne_eqb (sum left) 0 some)) ∙ cut)
    ]

-- ---- the intention, one entry after another: what a code that keeps the intended thread has to agree with

-- an entry that doesn't end the intention leaves it
pub intended-kept : (setup : Setup) (journal : List Entry) (entry : Entry) → ends_intention setup.selection entry ≡ false
    → intended_after setup (journal ++ entry ∷ []) ≡ intended_after setup journal
unfolding intended_after
intended-kept setup journal entry no_end = ap (intended_by setup.selected.answers) (lefts-kept setup.selection setup.counts journal entry no_end)

-- after one that ends it, the answer to one sum more picks
pub intended-next : (setup : Setup) (journal : List Entry) (entry : Entry) (left : List ℕ) → ends_intention setup.selection entry ≡ true
    → left ≡ numbers_left setup.selection setup.counts (journal ++ entry ∷ [])
    → intended_after setup (journal ++ entry ∷ [])
    ≡ cond (sum left == 0) (Ok None)
    (picked_from left (length (intention_lefts setup.selection setup.counts journal))
    (setup.selected.answers (map sum (intention_lefts setup.selection setup.counts journal) ++ sum left ∷ [])))
unfolding intended_after
intended-next setup journal entry left end is =
    ap (intended_by setup.selected.answers)
    (lefts-more setup.selection setup.counts journal entry end ∙ ap (λ l. intention_lefts setup.selection setup.counts journal ++ l ∷ []) (sym is))
    ∙ intended-pushed setup.selected.answers (intention_lefts setup.selection setup.counts journal) left
