-- While a run under SURW goes on, the choice is the one by the numbers of candidates at all positions up to it.
use Rattle.std.proofs.Common.{◌≡◌, ℕ, suc, ◌<◌, Bool, List, [], ◌∷◌, ◌++◌, length, map, get_or, Option, Result, Ok, Err, refl, ap, sym, subst, ◌∙◌, arith}
use Rattle.std.proofs.lemmas.List.{get_or-drop, length-map, map-append}
use Rattle.std.proofs.lemmas.List.FromFn.{get_or-map-range_with_len}
use Rattle.seed_draws.specs.declared.draw_fault.DrawFault.{DrawFault}
use Rattle.seed_draws.specs.Answers.{without_first}
use Rattle.walk_rules.specs.declared.picked.Picked.{Picked}
use Rattle.walk_rules.specs.declared.picked.Picked.TheVariants.{Grant, Stop}
use Rattle.walk_rules.specs.declared.rule.Rule.TheVariants.{Surw}
use Rattle.walk_rules.specs.declared.seen.Seen.{Seen}
use Rattle.walk_rules.specs.Surw.{candidate_at, candidate_bounds, candidates, is_forced, surw_picked}
use Rattle.run_rules.specs.Bounds.{answers_at, bounds_over}
use Rattle.run_rules.specs.Intention.{intended_after}
use Rattle.run_rules.specs.Position.{Position, earlier, position_at, seen_at}
use Rattle.run_rules.specs.Setup.{Setup}
use Rattle.run_rules.specs.SurwChoice.{intended_or_none, surw_choice, surw_other_at}
use Rattle.run_rules.proofs.EarlierPositions.{length-earlier}
use Rattle.run_rules.proofs.GrantedChoices.{GoesSoFar, going-granted}
use Rattle.selected_order.proofs.EndsInOrder.{choice-is}

-- the number of candidates at a position
abbrev pub candidates_at : Setup → Position → ℕ
candidates_at setup x = length (candidates (intended_or_none (intended_after setup x.journal)) (seen_at setup x))

-- the candidate at an answer's place
abbrev pub placed_at : List Seen → ℕ → Result (Option ℕ) DrawFault → Result (List ℕ) DrawFault → Picked
placed_at view k (Ok intended) (Ok draws) = Grant (get_or (candidates intended view) (get_or draws k 0) 0) (is_forced intended view)
placed_at view k (Ok intended) (Err fault) = Stop fault
placed_at view k (Err fault) answer = Stop fault

-- a position has an intention, and asks the number of candidates
record IsIntended (setup : Setup) (x : Position) : Type 0 where
  intended : Option ℕ
  is : intended_after setup x.journal ≡ Ok intended

granted-intended : (setup : Setup) (x : Position) (found : Result (Option ℕ) DrawFault) (answer : Result (List ℕ) DrawFault) (thread : ℕ) (forced : Bool)
    → intended_after setup x.journal ≡ found → surw_picked (seen_at setup x) found answer ≡ Grant thread forced → IsIntended setup x
granted-intended setup x (Ok intended) answer thread forced is granted = record { intended = intended; is = is }
granted-intended setup x (Err fault) answer thread forced is granted = absurd cc

going-intended : (setup : Setup) (x : Position) (thread : ℕ) (forced : Bool) → surw_choice setup x ≡ Grant thread forced → IsIntended setup x
unfolding surw_choice
going-intended setup x thread forced granted =
    granted-intended setup x (intended_after setup x.journal) (answers_at setup.other.answers (surw_other_at setup) x) thread forced refl granted

one-asked : (setup : Setup) (x : Position) → IsIntended setup x → surw_other_at setup x ≡ candidates_at setup x ∷ []
one-asked setup x has =
    ap (λ found. candidate_bounds (seen_at setup x) found) has.is
    ∙ sym (ap (λ found. length (candidates (intended_or_none found) (seen_at setup x)) ∷ []) has.is)

all-asked : (setup : Setup) (xs : List Position) → ((k : ℕ) (d : Position) → k < length xs → IsIntended setup (get_or xs k d))
    → bounds_over (surw_other_at setup) xs ≡ map (candidates_at setup) xs
all-asked setup [] each = refl
all-asked setup (x ∷ xs) each =
    (λ i. one-asked setup x (each 0 x (omega arith)) i ++ all-asked setup xs (λ k d lt. each (suc k) d (omega (arith, lt))) i)

pub earlier-asked : (setup : Setup) (x : Position) → setup.rule ≡ Surw → GoesSoFar setup x
    → bounds_over (surw_other_at setup) (earlier x) ≡ map (candidates_at setup) (earlier x)
unfolding earlier
earlier-asked setup x rule going =
    all-asked setup (earlier x) (λ k d lt.
    let within : k < length x.journal = omega (arith, lt, length-earlier x) in
    let at : get_or (earlier x) k d ≡ position_at x k = get_or-map-range_with_len (position_at x) 0 (length x.journal) k k d within (omega arith) in
    let granted = going-granted setup (position_at x k) (going k within) in
    subst (λ (y : Position). IsIntended setup y) (sym at)
    (going-intended setup (position_at x k) granted.thread granted.forced (sym (choice-is setup (position_at x k) rule) ∙ granted.is)))

-- the answer here is the one at this place of all
placed-last : (view : List Seen) (intended : Option ℕ) (n : ℕ) (answer : Result (List ℕ) DrawFault)
    → candidate_at view intended (without_first n answer) ≡ placed_at view n (Ok intended) answer
placed-last view intended n (Ok draws) =
    ap (λ d. Grant (get_or (candidates intended view) d 0) (is_forced intended view))
    (get_or-drop n draws 0 0 ∙ ap (λ m. get_or draws m 0) (omega arith))
placed-last view intended n (Err fault) = refl

chosen-at : (setup : Setup) (x : Position) (found : Result (Option ℕ) DrawFault) → intended_after setup x.journal ≡ found
    → bounds_over (surw_other_at setup) (earlier x) ≡ map (candidates_at setup) (earlier x)
    → surw_choice setup x ≡ placed_at (seen_at setup x) (length x.journal) found (setup.other.answers (map (candidates_at setup) (earlier x ++ x ∷ [])))
unfolding surw_choice
chosen-at setup x (Err fault) is before =
    ap (λ found. surw_picked (seen_at setup x) found (answers_at setup.other.answers (surw_other_at setup) x)) is
chosen-at setup x (Ok intended) is before =
    let here : surw_other_at setup x ≡ candidates_at setup x ∷ [] = one-asked setup x (record { intended = intended; is = is }) in
    let asked : List ℕ = map (candidates_at setup) (earlier x) in
    let all : asked ++ candidates_at setup x ∷ [] ≡ map (candidates_at setup) (earlier x ++ x ∷ []) =
    sym (map-append (candidates_at setup) (earlier x) (x ∷ [])) in
    let long : length asked ≡ length x.journal = length-map (earlier x) (candidates_at setup) ∙ length-earlier x in
    ap (λ found. surw_picked (seen_at setup x) found (answers_at setup.other.answers (surw_other_at setup) x)) is
    ∙ (λ i. candidate_at (seen_at setup x) intended (without_first (length (before i)) (setup.other.answers (before i ++ here i))))
    ∙ (λ i. candidate_at (seen_at setup x) intended (without_first (long i) (setup.other.answers (all i))))
    ∙ placed-last (seen_at setup x) intended (length x.journal) (setup.other.answers (map (candidates_at setup) (earlier x ++ x ∷ [])))

pub choice-placed : (setup : Setup) (x : Position) → setup.rule ≡ Surw → GoesSoFar setup x
    → surw_choice setup x
    ≡ placed_at (seen_at setup x) (length x.journal) (intended_after setup x.journal) (setup.other.answers (map (candidates_at setup) (earlier x ++ x ∷ [])))
choice-placed setup x rule going = chosen-at setup x (intended_after setup x.journal) refl (earlier-asked setup x rule going)
