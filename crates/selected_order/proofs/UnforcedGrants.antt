-- What is known of a grant under SURW where the step isn't forced.
use Rattle.std.proofs.Common.{◌≡◌, ℕ, ◌&&◌, ◌||◌, ◌<◌, ◌≤◌, not, Bool, true, false, cond, List, [], ◌∷◌, ◌++◌, length, get_or, Option, None, Some, is_ok, IsOk, take, Result, Ok, Err, refl, ap, sym, ◌∙◌, arith}
use Rattle.std.proofs.lemmas.Bool.{eqb-true, eqb-false, cond-false, and_parts, false≢true}
use Rattle.std.proofs.lemmas.List.Elements.{filter_passes}
use Rattle.std.specs.List.{range_with_len}
use Rattle.seed_draws.specs.declared.draw_fault.DrawFault.{DrawFault}
use Rattle.seed_draws.specs.Answers.{Answering, IsSource, answers_after}
use Rattle.seed_draws.proofs.Asked.{after-ok, has-draws, source-after}
use Rattle.event_class.specs.declared.event.Event.{Event}
use Rattle.event_class.specs.Selection.{has}
use Rattle.test_world.specs.World.{is_enabled}
use Rattle.walk_rules.specs.declared.picked.Picked.TheVariants.{Grant}
use Rattle.walk_rules.specs.declared.seen.Seen.{Seen}
use Rattle.walk_rules.specs.declared.seen.Seen.TheVariants.{Held, Able}
use Rattle.walk_rules.specs.Seen.{is_able, is_chosen, seen_of, able_threads}
use Rattle.walk_rules.specs.Surw.{candidate_at, candidate_bounds, candidates, is_forced, is_intended, is_narrow, narrow, surw_picked}
use Rattle.run_rules.specs.Bounds.{bounds_over}
use Rattle.run_rules.specs.Intention.{intended_after}
use Rattle.run_rules.specs.Position.{Position, earlier, seen_at, seen_word, world_at}
use Rattle.run_rules.specs.Setup.{Setup}
use Rattle.run_rules.specs.SurwChoice.{surw_choice, surw_other_at}
use Rattle.run_rules.proofs.Verdicts.{grant-parts}
use Rattle.run_rules.proofs.Words.{seen-at}

-- a thread is granted among the narrow candidates of an intention
pub record IsNarrowGrant (intention : Result (Option ℕ) DrawFault) (view : List Seen) (thread : ℕ) : Type 0 where
  pub intended : Option ℕ
  pub is : intention ≡ Ok intended
  pub narrow : is_narrow intended view thread ≡ true

narrow-place : (intended : Option ℕ) (view : List Seen) (draw : ℕ) → draw < length (narrow intended view)
    → is_narrow intended view (get_or (narrow intended view) draw 0) ≡ true
unfolding narrow
narrow-place intended view draw lt = filter_passes (is_narrow intended view) (range_with_len 0 (length view)) draw 0 lt

among-narrow : (intended : Option ℕ) (view : List Seen) (draw thread : ℕ) → is_forced intended view ≡ false
    → (1 ≤ length (candidates intended view) → draw < length (candidates intended view))
    → get_or (candidates intended view) draw 0 ≡ thread → is_narrow intended view thread ≡ true
among-narrow intended view draw thread unforced below picked =
    let are : candidates intended view ≡ narrow intended view = cond-false (is_forced intended view) (able_threads view) (narrow intended view) unforced in
    let long : length (candidates intended view) ≡ length (narrow intended view) = ap (λ (threads : List ℕ). length threads) are in
    let some : 1 ≤ length (candidates intended view) = omega (arith, long, eqb-false (length (narrow intended view)) 0 unforced) in
    let same : get_or (narrow intended view) draw 0 ≡ thread = ap (λ (threads : List ℕ). get_or threads draw 0) (sym are) ∙ picked in
    sym (ap (λ t. is_narrow intended view t) same) ∙ narrow-place intended view draw (omega (arith, long, below some))

narrow-answer : (intended : Option ℕ) (view : List Seen) (answers : Result (List ℕ) DrawFault) (thread : ℕ)
    → ((draws : List ℕ) → answers ≡ Ok draws → 1 ≤ length (candidates intended view) → get_or draws 0 0 < length (candidates intended view))
    → candidate_at view intended answers ≡ Grant thread false → is_narrow intended view thread ≡ true
narrow-answer intended view (Err fault) thread below granted = absurd cc
narrow-answer intended view (Ok draws) thread below granted =
    let parts = grant-parts (get_or (candidates intended view) (get_or draws 0 0) 0) thread (is_forced intended view) false granted in
    among-narrow intended view (get_or draws 0 0) thread parts.1 (below draws refl) parts.0

-- what is answered after others is below its bounds
below-after : (answering : Answering) (asked bounds draws : List ℕ) → IsSource answering → answers_after answering asked bounds ≡ Ok draws
    → (k : ℕ) → k < length bounds → 1 ≤ get_or bounds k 0 → get_or draws k 0 < get_or bounds k 0
below-after answering asked bounds draws is at =
    let ok : IsOk (answering (asked ++ bounds)) = after-ok (length asked) (answering (asked ++ bounds)) (ap is_ok at) in
    let all = has-draws (answering (asked ++ bounds)) ok in
    (source-after answering asked (take (length asked) all.draws) is (is.first asked bounds all.draws all.is)).below bounds draws at

narrow-grant : (intention : Result (Option ℕ) DrawFault) (view : List Seen) (answering : Answering) (asked : List ℕ) (thread : ℕ) → IsSource answering
    → surw_picked view intention (answers_after answering asked (candidate_bounds view intention)) ≡ Grant thread false → IsNarrowGrant intention view thread
narrow-grant (Err fault) view answering asked thread is granted = absurd cc
narrow-grant (Ok intended) view answering asked thread is granted = record {
  intended = intended;
  is = refl;
  narrow = narrow-answer intended view (answers_after answering asked (length (candidates intended view) ∷ [])) thread
      (λ draws at some. below-after answering asked (length (candidates intended view) ∷ []) draws is at 0 (omega arith) some) granted;
}

-- an unforced step is of a narrow candidate
pub surw-narrow : (setup : Setup) (x : Position) (thread : ℕ) → IsSource setup.other.answers → surw_choice setup x ≡ Grant thread false
    → IsNarrowGrant (intended_after setup x.journal) (seen_at setup x) thread
unfolding surw_choice
surw-narrow setup x thread other granted =
    narrow-grant (intended_after setup x.journal) (seen_at setup x) setup.other.answers (bounds_over (surw_other_at setup) (earlier x)) thread other granted

-- ---- an able thread's word

-- an event is seen as selected where it is, enabled or not
chosen-either : (enabled chosen : Bool) → is_chosen (cond enabled (Able chosen) (Held chosen)) ≡ chosen
chosen-either true chosen = refl
chosen-either false chosen = refl

narrow-intended : (intended : Option ℕ) (seen : Seen) (thread : ℕ) → (is_able seen && (not (is_chosen seen) || is_intended intended thread)) ≡ true
    → is_chosen seen ≡ true → is_intended intended thread ≡ true
narrow-intended intended seen thread narrow chosen =
    let parts = and_parts (is_able seen) (not (is_chosen seen) || is_intended intended thread) narrow in
    sym (ap (λ (b : Bool). not b || is_intended intended thread) chosen) ∙ parts.1

intended-is : (intended : Option ℕ) (thread : ℕ) → is_intended intended thread ≡ true → intended ≡ Some thread
intended-is None thread is = absurd (false≢true is)
intended-is (Some other) thread is = ap Some (eqb-true other thread is)

-- an unforced step whose event is selected is of the intended thread
pub surw-intended : (setup : Setup) (x : Position) (thread : ℕ) (event : Event) → IsSource setup.other.answers → surw_choice setup x ≡ Grant thread false
    → get_or x.words thread None ≡ Some event → has setup.selection event ≡ true → intended_after setup x.journal ≡ Ok (Some thread)
surw-intended setup x thread event other granted word selected =
    let grant = surw-narrow setup x thread other granted in
    let seen : seen_of (seen_at setup x) thread ≡ seen_word (world_at setup x) setup.selection (Some event) =
    seen-at setup x thread ∙ ap (seen_word (world_at setup x) setup.selection) word in
    let chosen : is_chosen (seen_of (seen_at setup x) thread) ≡ true =
    ap is_chosen seen ∙ chosen-either (is_enabled (world_at setup x) event) (has setup.selection event) ∙ selected in
    grant.is ∙ ap Ok (intended-is grant.intended thread (narrow-intended grant.intended (seen_of (seen_at setup x) thread) thread grant.narrow chosen))
