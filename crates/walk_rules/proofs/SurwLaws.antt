-- What holds of SURW's pick.
use Rattle.std.proofs.Common.{◌≡◌, ℕ, ◌<◌, ◌&&◌, ◌||◌, not, Bool, true, false, IsTrue, IsOk, Result, Ok, Err, List, [], ◌∷◌, length, get_or, Option, refl, sym, subst, inl, inr, arith}
use Rattle.std.proofs.lemmas.Bool.{cases_Bool, cond-true, cond-false, eqb-false}
use Rattle.std.proofs.lemmas.List.Elements.{All-get_or, filter_passes}
use Rattle.std.specs.List.{range_with_len}
use Rattle.seed_draws.specs.Answers.{Answering, IsSource}
use Rattle.seed_draws.specs.declared.draw_fault.DrawFault.{DrawFault}
use Rattle.walk_rules.specs.declared.picked.Picked.TheVariants.{Grant}
use Rattle.walk_rules.specs.declared.seen.Seen.{Seen}
use Rattle.walk_rules.specs.Seen.{able_threads, is_able, is_chosen, seen_of}
use Rattle.walk_rules.specs.Surw.{candidate_at, candidate_bounds, candidates, intention_bounds, intention_by, is_forced, is_intended, is_narrow, narrow, surw, surw_picked}
use Rattle.walk_rules.specs.Walk.{GrantsAble, IsStrategy}
use Rattle.walk_rules.proofs.AbleThreads.{able-place}

both-first : (a b : Bool) → (a && b) ≡ true → a ≡ true
both-first true b is = refl
both-first false b is = is

-- each narrow candidate is able
pub narrow-able : (intended : Option ℕ) (view : List Seen) (d : ℕ) → d < length (narrow intended view)
    → IsTrue (is_able (seen_of view (get_or (narrow intended view) d 0)))
unfolding narrow
narrow-able intended view d lt =
    let test : ℕ → Bool = is_narrow intended view in
    let thread : ℕ = get_or (narrow intended view) d 0 in
    both-first (is_able (seen_of view thread)) (not (is_chosen (seen_of view thread)) || is_intended intended thread)
    (All-get_or (λ t. test t ≡ true) (narrow intended view) d 0 lt (filter_passes test (range_with_len 0 (length view))))

pub candidate-able : (intended : Option ℕ) (view : List Seen) (d : ℕ) → d < length (candidates intended view)
    → IsTrue (is_able (seen_of view (get_or (candidates intended view) d 0)))
candidate-able intended view d lt = elim (cases_Bool (is_forced intended view)) [
  | inl forced ↦
      let all : candidates intended view ≡ able_threads view = cond-true (is_forced intended view) (able_threads view) (narrow intended view) forced in
      subst (λ threads. IsTrue (is_able (seen_of view (get_or threads d 0)))) (sym all) (able-place view d (subst (λ threads. d < length threads) all lt))
  | inr free ↦
      let few : candidates intended view ≡ narrow intended view = cond-false (is_forced intended view) (able_threads view) (narrow intended view) free in
      subst (λ threads. IsTrue (is_able (seen_of view (get_or threads d 0)))) (sym few) (narrow-able intended view d (subst (λ threads. d < length threads) few lt))
]

-- there is a candidate where some thread is able
pub candidate-some : (intended : Option ℕ) (view : List Seen) → 0 < length (able_threads view) → 0 < length (candidates intended view)
candidate-some intended view some = elim (cases_Bool (is_forced intended view)) [
  | inl forced ↦
      subst (λ threads. 0 < length threads) (sym (cond-true (is_forced intended view) (able_threads view) (narrow intended view) forced)) some
  | inr free ↦
      let one = eqb-false (length (narrow intended view)) 0 free in
      let more : 0 < length (narrow intended view) = omega (arith, one) in
      subst (λ threads. 0 < length threads) (sym (cond-false (is_forced intended view) (able_threads view) (narrow intended view) free)) more
]

candidate-granted : (view : List Seen) (intended : Option ℕ) (answer : Result (List ℕ) DrawFault)
    → ((draws : List ℕ) → answer ≡ Ok draws → get_or draws 0 0 < length (candidates intended view)) → GrantsAble view (candidate_at view intended answer)
candidate-granted view intended (Ok draws) below = candidate-able intended view (get_or draws 0 0) (below draws refl)
candidate-granted view intended (Err fault) below = tt

surw-granted : (view : List Seen) (found : Result (Option ℕ) DrawFault) (other : Answering) → IsSource other → 0 < length (able_threads view)
    → GrantsAble view (surw_picked view found (other (candidate_bounds view found)))
surw-granted view (Ok intended) other source some =
    let bound : ℕ = length (candidates intended view) in
    let one = candidate-some intended view some in
    candidate-granted view intended (other (bound ∷ [])) (λ draws is. source.below (bound ∷ []) draws is 0 (omega arith) (omega (arith, one)))
surw-granted view (Err fault) other source some = tt

answer-ok : (view : List Seen) (intended : Option ℕ) (answer : Result (List ℕ) DrawFault) (thread : ℕ) (forced : Bool)
    → candidate_at view intended answer ≡ Grant thread forced → IsOk answer
answer-ok view intended (Ok draws) thread forced is = refl
answer-ok view intended (Err fault) thread forced is = cc

other-ok : (view : List Seen) (found : Result (Option ℕ) DrawFault) (other : Answering) (thread : ℕ) (forced : Bool)
    → surw_picked view found (other (candidate_bounds view found)) ≡ Grant thread forced → IsOk (other (candidate_bounds view found))
other-ok view (Ok intended) other thread forced is = answer-ok view intended (other (length (candidates intended view) ∷ [])) thread forced is
other-ok view (Err fault) other thread forced is = cc

selected-ok : (view : List Seen) (intended : Option ℕ) (left : List ℕ) (answer : Result (List ℕ) DrawFault) (other : Answering) (thread : ℕ) (forced : Bool)
    → surw_picked view (intention_by intended left answer) (other (candidate_bounds view (intention_by intended left answer))) ≡ Grant thread forced → IsOk answer
selected-ok view intended left (Ok draws) other thread forced is = refl
selected-ok view intended left (Err fault) other thread forced is = cc

pub surw-is : IsStrategy surw
surw-is = record {
  answered = λ walk view selected other thread forced source_s source_o granted. (
    selected-ok view walk.memory.intended walk.left (selected (intention_bounds walk.memory.intended walk.left)) other thread forced granted,
    other-ok view (intention_by walk.memory.intended walk.left (selected (intention_bounds walk.memory.intended walk.left))) other thread forced granted,
  );
  able = λ walk view selected other source_s source_o can.
      surw-granted view (intention_by walk.memory.intended walk.left (selected (intention_bounds walk.memory.intended walk.left))) other source_o can.able;
}

-- what is known of candidates
pub ruleset places = (narrow-able)
