-- Where every event is selected and nothing blocks, SURW chooses as URW does.
use Rattle.std.proofs.Common.{◌≡◌, ℕ, ◌==◌, ◌&&◌, ◌<◌, nat_le, true, false, IsOk, List, [], ◌∷◌, ◌++◌, length, map, drop, sum, get_or, None, Some, Result, Ok, Err, refl, ap, sym, ◌∙◌, arith}
use Rattle.std.proofs.lemmas.Bool.{leb-false, ne_eqb, cond-false}
use Rattle.std.proofs.lemmas.List.{get_or-drop, get_or_push, length-map, length_push}
use Rattle.std.proofs.lemmas.List.Sums.{get_or-le-sum_by}
use Rattle.draw_split.specs.Bag.{pick}
use Rattle.draw_split.proofs.Bag.{placed, listed}
use Rattle.seed_draws.specs.declared.draw_fault.DrawFault.{DrawFault}
use Rattle.seed_draws.specs.Answers.{IsSource, without_first}
use Rattle.event_class.specs.declared.event.Event.{Event}
use Rattle.event_class.specs.declared.pickable.Pickable.{Pickable}
use Rattle.event_class.specs.declared.pickable.Pickable.TheVariants.{Every}
use Rattle.event_class.specs.Selection.{has}
use Rattle.walk_rules.specs.declared.picked.Picked.TheVariants.{Grant, Stop}
use Rattle.walk_rules.specs.Granted.{granted_at}
use Rattle.walk_rules.specs.Surw.{narrow, surw_picked}
use Rattle.run_rules.specs.declared.entry.Entry.{Entry}
use Rattle.run_rules.specs.Bounds.{answers_at, bounds_over}
use Rattle.run_rules.specs.EventsMade.{events_made}
use Rattle.run_rules.specs.Intention.{picked_from, intended_by, intended_after}
use Rattle.run_rules.specs.LegalJournal.{IsLegal}
use Rattle.run_rules.specs.NumbersLeft.{left_at}
use Rattle.run_rules.specs.Position.{Position, earlier, position_of, seen_at}
use Rattle.run_rules.specs.Replies.{announcement}
use Rattle.run_rules.specs.Setup.{Setup, Script}
use Rattle.run_rules.specs.SurwChoice.{surw_choice, surw_other_at}
use Rattle.run_rules.specs.UrwChoice.{urw_bounds_at, urw_choice}
use Rattle.run_rules.specs.Verdict.{is_miscounted, first_miscounted, deadlock}
use Rattle.run_rules.proofs.GrantedChoices.{is-counted}
use Rattle.run_rules.proofs.Intentions.{intended-pushed}
use Rattle.run_rules.proofs.Numbers.{left-any, length-left}
use Rattle.run_rules.proofs.Words.{some-able, has-word}
use Rattle.selected_order.proofs.Announcements.{left-announces}
use Rattle.selected_order.proofs.EndsInOrder.{unforced-able}
use Rattle.selected_order.proofs.FreeChoice.{IsFreeChoice, free-choice, other_up_to}
use Rattle.selected_order.proofs.InOrder.{left_of}
use Rattle.selected_order.proofs.NarrowCandidates.{intended-narrow}
use Rattle.selected_order.proofs.SameBounds.{IsStepwise, bound-is}
use Rattle.selected_order.proofs.SameNumbers.{IsEvery, ended-left, has-every, kept-all}
use Rattle.selected_order.proofs.UnforcedGrants.{surw-intended}

-- what is known of a script and a journal where it has neither a wrong count nor a refusal
record IsGoing (script : Script) (journal : List Entry) : Type 0 where
  every : IsEvery script
  legal : IsLegal script journal
  counted : first_miscounted script.setup (position_of script journal) ≡ None
  other : IsSource script.setup.other.answers
  answered : IsOk (script.setup.other.answers (other_up_to script.setup (position_of script journal)))

-- an unforced choice is of the intended thread, where its event is selected
intended-same : (setup : Setup) (x : Position) (thread chosen : ℕ) (event : Event) → IsSource setup.other.answers
    → surw_choice setup x ≡ Grant chosen false → get_or x.words chosen None ≡ Some event → has setup.selection event ≡ true
    → intended_after setup x.journal ≡ Ok (Some thread) → surw_choice setup x ≡ Grant thread false
intended-same setup x thread chosen event other granted word selected intended =
    let again : intended_after setup x.journal ≡ Ok (Some chosen) = surw-intended setup x chosen event other granted word selected in
    let same : Ok (Some chosen) ≡ Ok (Some thread) = sym again ∙ intended in
    let one : chosen ≡ thread = cc in
    granted ∙ ap (λ t. Grant t false) one

-- the intended thread is a narrow candidate
left-narrow : (script : Script) (journal : List Entry) (thread : ℕ) → IsGoing script journal
    → 0 < get_or (left_of script.setup journal) thread 0
    → 0 < length (narrow (Some thread) (seen_at script.setup (position_of script journal)))
left-narrow script journal thread is some =
    let setup : Setup = script.setup in
    let left : List ℕ = left_of setup journal in
    let long = length-left setup.selection setup.counts journal in
    let within : thread < setup.threads = omega (arith, listed left thread 0 some, long, is.every.counted) in
    let word = left-announces (get_or left thread 0) (announcement script journal thread) some (ended-left script journal thread is.counted within) in
    intended-narrow script journal thread word.event is.every.free is.legal within word.is

-- so it is the one that is chosen
intended-chosen : (script : Script) (journal : List Entry) (thread : ℕ) → IsGoing script journal
    → intended_after script.setup journal ≡ Ok (Some thread) → 0 < get_or (left_of script.setup journal) thread 0
    → surw_choice script.setup (position_of script journal) ≡ Grant thread false
unfolding position_of
intended-chosen script journal thread is intended some =
    let setup : Setup = script.setup in
    let x : Position = position_of script journal in
    let choice : IsFreeChoice setup x =
    free-choice setup x (record { intended = Some thread; is = intended; some = left-narrow script journal thread is some }) is.answered in
    let word = has-word setup x choice.thread (unforced-able setup x choice.thread is.other choice.chosen) in
    intended-same setup x thread choice.thread word.event is.other choice.chosen word.word (has-every script word.event is.every) intended

-- a refused intention is the choice
refused-choice : (setup : Setup) (x : Position) (fault : DrawFault) → intended_after setup x.journal ≡ Err fault
    → surw_choice setup x ≡ Stop fault
unfolding surw_choice
refused-choice setup x fault is =
    ap (λ intention. surw_picked (seen_at setup x) intention (answers_at setup.other.answers (surw_other_at setup) x)) is

-- both choices from the answer to the same bounds
choice-from : (script : Script) (journal : List Entry) (before : List (List ℕ)) (answer : Result (List ℕ) DrawFault)
    → IsGoing script journal → IsSource script.setup.selected.answers
    → script.setup.selected.answers (map sum before ++ sum (left_of script.setup journal) ∷ []) ≡ answer
    → 0 < sum (left_of script.setup journal)
    → intended_after script.setup journal ≡ picked_from (left_of script.setup journal) (length before) answer
    → surw_choice script.setup (position_of script journal)
    ≡ granted_at (pick (left_of script.setup journal)) (without_first (length (map sum before)) answer)
unfolding position_of
choice-from script journal before (Err fault) is selected asked some intended =
    refused-choice script.setup (position_of script journal) fault intended
choice-from script journal before (Ok draws) is selected asked some intended =
    let left : List ℕ = left_of script.setup journal in
    let sums : List ℕ = map sum before in
    let n : ℕ = length before in
    let bounds : List ℕ = sums ++ sum left ∷ [] in
    let draw : ℕ = get_or draws n 0 in
    let last : get_or bounds n 0 ≡ sum left = get_or_push sums (sum left) 0 n (length-map before sum) in
    let inside : n < length bounds = omega (arith, length_push sums (sum left), length-map before sum) in
    let below : draw < sum left = omega (arith, last, selected.below bounds draws asked n inside (omega (arith, last, some))) in
    let place = placed left draw below in
    let at : draw ≡ get_or (drop (length sums) draws) 0 0 =
    ap (λ m. get_or draws m 0) (omega (arith, length-map before sum)) ∙ sym (get_or-drop (length sums) draws 0 0) in
    intended-chosen script journal (pick left draw) is intended (omega (arith, place.within))
    ∙ ap (λ d. Grant (pick left d) false) at

-- something is left where a thread is able and no count is wrong
some-left : (setup : Setup) (x : Position) → setup.selection ≡ Every ∷ [] → first_miscounted setup x ≡ None → deadlock setup x ≡ None
    → 0 < sum (left_at setup x)
some-left setup x every counted going =
    let able = some-able setup x going in
    let word = has-word setup x able.thread able.able in
    let thread : ℕ = able.thread in
    let count : ℕ = get_or setup.counts thread 0 in
    let made : ℕ = events_made setup.selection x.journal thread in
    let left : List ℕ = left_at setup x in
    let right = is-counted setup x thread counted word.within in
    let full : nat_le count made ≡ false =
    sym ((λ i. is_miscounted setup.selection count made (word.word i))
    ∙ ap (λ (items : List Pickable). has items word.event && nat_le count made) every) ∙ right in
    let less : made < count = leb-false count made full in
    let some : 0 < get_or left thread 0 = omega (arith, less, left-any setup.selection setup.counts x.journal thread) in
    omega (arith, some, get_or-le-sum_by (λ n. n) left thread 0 (listed left thread 0 some))

-- SURW chooses as URW does
pub choice-same : (script : Script) (journal : List Entry) → IsEvery script → IsLegal script journal → IsStepwise script journal
    → first_miscounted script.setup (position_of script journal) ≡ None → deadlock script.setup (position_of script journal) ≡ None
    → IsSource script.setup.selected.answers → IsSource script.setup.other.answers
    → IsOk (script.setup.other.answers (other_up_to script.setup (position_of script journal)))
    → surw_choice script.setup (position_of script journal) ≡ urw_choice script.setup (position_of script journal)
unfolding position_of urw_choice intended_after
choice-same script journal is legal step counted going selected other answered =
    let setup : Setup = script.setup in
    let x : Position = position_of script journal in
    let answers = setup.selected.answers in
    let left : List ℕ = left_of setup journal in
    let sums : List ℕ = map sum step.before in
    let some : 0 < sum left = some-left setup x is.every counted going in
    let bounds : sums ++ sum left ∷ [] ≡ bounds_over (urw_bounds_at setup) (earlier x) ++ urw_bounds_at setup x =
    (λ i. step.bounds i ++ sym (bound-is script journal is legal counted) i) in
    let picked = picked_from left (length step.before) (answers (sums ++ sum left ∷ [])) in
    let intended =
    ap (intended_by answers) step.asked ∙ intended-pushed answers step.before left
    ∙ cond-false (sum left == 0) (Ok None) picked (ne_eqb (sum left) 0 (omega (arith, some))) in
    let so_far : IsGoing script journal = record { every = is; legal = legal; counted = counted; other = other; answered = answered } in
    let kept = sym (kept-all script journal is legal counted) in
    choice-from script journal step.before (answers (sums ++ sum left ∷ [])) so_far selected refl some intended
    ∙ (λ i. granted_at (pick (kept i)) (without_first (length (step.bounds i)) (answers (bounds i))))
