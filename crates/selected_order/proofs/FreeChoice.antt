-- Where there is a narrow candidate and the other source answers, the choice under SURW isn't forced.
use Rattle.std.proofs.Common.{◌≡◌, ℕ, suc, ◌-◌, ◌+◌, ◌<◌, ◌≤◌, false, IsOk, List, [], ◌∷◌, ◌++◌, length, flat_map, drop, get_or, Option, None, Result, Ok, Err, ap, sym, subst, ◌∙◌, inl, inr, arith}
use Rattle.std.proofs.lemmas.Bool.{cases_lt, ne_eqb}
use Rattle.std.proofs.lemmas.List.{get_or_append_left, get_or-append-add, length-append, flat_map_more}
use Rattle.std.proofs.lemmas.List.FromFn.{get_or-map-range_with_len}
use Rattle.seed_draws.specs.declared.draw_fault.DrawFault.{DrawFault}
use Rattle.seed_draws.specs.Answers.{NeverRefuses, without_first}
use Rattle.seed_draws.proofs.Asked.{has-draws}
use Rattle.walk_rules.specs.declared.picked.Picked.TheVariants.{Grant}
use Rattle.walk_rules.specs.declared.seen.Seen.{Seen}
use Rattle.walk_rules.specs.Seen.{able_threads}
use Rattle.walk_rules.specs.Surw.{candidate_bounds, candidates, is_forced, narrow, surw_picked}
use Rattle.walk_rules.proofs.SurwLaws.{candidate-some}
use Rattle.run_rules.specs.Bounds.{answers_at, bounds_over}
use Rattle.run_rules.specs.Intention.{intended_after}
use Rattle.run_rules.specs.Position.{Position, earlier, position_at, seen_at}
use Rattle.run_rules.specs.Setup.{Setup}
use Rattle.run_rules.specs.SurwChoice.{surw_choice, surw_other_at}
use Rattle.run_rules.specs.Verdict.{deadlock}
use Rattle.run_rules.proofs.EarlierPositions.{length-earlier}
use Rattle.run_rules.proofs.Words.{able-some, has-word, length-seen, some-able}
use Rattle.selected_order.proofs.NarrowCandidates.{HasNarrow}

-- ---- the choice

-- what the other source is asked for at the positions up to one
abbrev pub other_up_to : Setup → Position → List ℕ
other_up_to setup x = bounds_over (surw_other_at setup) (earlier x ++ x ∷ [])

-- a choice that isn't forced
pub record IsFreeChoice (setup : Setup) (x : Position) : Type 0 where
  pub thread : ℕ
  pub chosen : surw_choice setup x ≡ Grant thread false

pub free-choice : (setup : Setup) (x : Position) → HasNarrow setup x → IsOk (setup.other.answers (other_up_to setup x)) → IsFreeChoice setup x
unfolding surw_choice
free-choice setup x has ok =
    let answered = has-draws (setup.other.answers (other_up_to setup x)) ok in
    let view : List Seen = seen_at setup x in
    let n : ℕ = length (bounds_over (surw_other_at setup) (earlier x)) in
    let some = has.some in
    let unforced : is_forced has.intended view ≡ false = ne_eqb (length (narrow has.intended view)) 0 (omega (arith, some)) in
    let thread : ℕ = get_or (candidates has.intended view) (get_or (drop n answered.draws) 0 0) 0 in
    record {
      thread = thread;
      chosen = ap (λ intention. surw_picked view intention (answers_at setup.other.answers (surw_other_at setup) x)) has.is
          ∙ ap (λ r. surw_picked view (Ok has.intended) (without_first n r))
          (ap setup.other.answers (flat_map_more (surw_other_at setup) [] (earlier x) x) ∙ answered.is)
          ∙ ap (Grant thread) unforced;
    }

-- ---- the other source answers

-- bounds that have a place
AreSome : List ℕ → Type 0
AreSome bounds = (k : ℕ) → k < length bounds → 1 ≤ get_or bounds k 0

some-append : (bounds more : List ℕ) → AreSome bounds → AreSome more → AreSome (bounds ++ more)
unfolding AreSome
some-append bounds more are later = λ k lt. elim (cases_lt k (length bounds)) [
  | inl early ↦ omega (arith, get_or_append_left bounds more 0 k early, are k early)
  | inr late ↦
      let j : ℕ = k - length bounds in
      let at : length bounds + j ≡ k = omega (arith, late) in
      let here : get_or (bounds ++ more) (length bounds + j) 0 ≡ get_or more j 0 = get_or-append-add bounds more j 0 in
      omega (arith, ap (λ n. get_or (bounds ++ more) n 0) (sym at), here, later j (omega (arith, lt, late, length-append bounds more)))
]

some-over : (f : Position → List ℕ) (xs : List Position) → ((k : ℕ) (d : Position) → k < length xs → AreSome (f (get_or xs k d)))
    → AreSome (flat_map f xs)
unfolding AreSome
some-over f [] each = λ k lt. absurd (omega (arith, lt))
some-over f (x ∷ xs) each =
    some-append (f x) (flat_map f xs) (each 0 x (omega arith)) (some-over f xs (λ k d lt. each (suc k) d (omega (arith, lt))))

candidates-bound : (view : List Seen) (intention : Result (Option ℕ) DrawFault) → 0 < length (able_threads view)
    → AreSome (candidate_bounds view intention)
unfolding AreSome
candidates-bound view (Ok intended) some = λ k lt.
    let here : k ≡ 0 = omega (arith, lt) in
    let positive = candidate-some intended view some in
    omega (arith, ap (λ n. get_or (length (candidates intended view) ∷ []) n 0) here, positive)
candidates-bound view (Err fault) some = λ k lt. absurd (omega (arith, lt))

-- where some thread is able there is a candidate
bound-positive : (setup : Setup) (x : Position) → deadlock setup x ≡ None → AreSome (surw_other_at setup x)
bound-positive setup x going =
    let view : List Seen = seen_at setup x in
    let able = some-able setup x going in
    let has = has-word setup x able.thread able.able in
    candidates-bound view (intended_after setup x.journal)
    (able-some view able.thread (omega (arith, has.within, length-seen setup x)) able.able)

-- a source that never refuses answers the numbers of candidates, where no position up to this one is a deadlock
pub other-answers : (setup : Setup) (x : Position) → NeverRefuses setup.other.answers
    → ((k : ℕ) → k < length x.journal → deadlock setup (position_at x k) ≡ None) → deadlock setup x ≡ None
    → IsOk (setup.other.answers (other_up_to setup x))
unfolding AreSome earlier
other-answers setup x never before here =
    let asked : List Position → List ℕ = bounds_over (surw_other_at setup) in
    let early : AreSome (asked (earlier x)) = some-over (surw_other_at setup) (earlier x) (λ k d lt.
    let within : k < length x.journal = omega (arith, lt, length-earlier x) in
    let at : get_or (earlier x) k d ≡ position_at x k =
    get_or-map-range_with_len (position_at x) 0 (length x.journal) k k d within (omega arith) in
    subst (λ (y : Position). AreSome (surw_other_at setup y)) (sym at) (bound-positive setup (position_at x k) (before k within))) in
    let all : AreSome (other_up_to setup x) =
    subst (λ (bounds : List ℕ). AreSome bounds) (flat_map_more (surw_other_at setup) [] (earlier x) x)
    (some-append (asked (earlier x)) (surw_other_at setup x) early (bound-positive setup x here)) in
    never (other_up_to setup x) all
