-- Why a run stops before a draw is asked for, and where it goes on.
use Rattle.std.proofs.Common.{◌≡◌, ◌≢◌, ℕ, ◌==◌, ◌<◌, ltb, Bool, true, false, cond, List, [], ◌∷◌, length, map, Option, None, Some, IfSome, refl, sym, subst, ◌∙◌, arith}
use Rattle.std.proofs.lemmas.Bool.{eq-eqb, false≢true}
use Rattle.std.proofs.lemmas.Option.{none-some}
use Rattle.std.specs.List.{count_by}
use Rattle.std.specs.Option.{option_map}
use Rattle.surw_base.specs.declared.limits.TheConstants.{STEPS}
use Rattle.event_class.specs.declared.event.Event.{Event}
use Rattle.walk_rules.specs.declared.asked.Asked.{Asked}
use Rattle.walk_rules.specs.declared.seen.Seen.{Seen}
use Rattle.walk_rules.specs.Seen.{able_threads, is_announcing}
use Rattle.walk_rules.specs.Strategies.{asked_at, asked_list}
use Rattle.walk_rules.specs.Walk.{AsksAble, wrong_of}
use Rattle.walk_rules.proofs.WrongThreads.{none-mapped}
use Rattle.run_rules.specs.declared.verdict.Verdict.{Verdict}
use Rattle.run_rules.specs.declared.verdict.Verdict.TheVariants as verdict
use Rattle.run_rules.specs.declared.verdict.Verdict.TheVariants.{Ended, Deadlock, Left, StepLimit}
use Rattle.run_rules.specs.Run.{is_drawn}
use Rattle.run_rules.specs.Verdict.{can_make, first_of, first_with_word, left_over, other_than_asked}
use Rattle.run_rules.proofs.AskedEntries.{asked-able}
use Rattle.run_rules.proofs.Verdicts.{first-none}
use Rattle.pure_run.specs.declared.running.Running.{Running}
use Rattle.pure_run.specs.Core.{CoreState, last_word}
use Rattle.pure_run.specs.Decision.{IsDecidable, stop_at, wrong_verdict}
use Rattle.pure_run.proofs.Counts.{positive, some-counted}

-- what holds of the first of some verdicts and of the first of the rest
pub first-if : (P : Verdict → Type 0) (verdict : Option Verdict) (rest : List (Option Verdict)) → IfSome verdict P → IfSome (first_of rest) P → IfSome (first_of (verdict ∷ rest)) P
first-if P None rest here later = later
first-if P (Some verdict) rest here later = here

pub unless-if : (P : Verdict → Type 0) (holds : Bool) (verdict : Verdict) → P verdict → IfSome (cond holds None (Some verdict)) P
unless-if P true verdict is = tt
unless-if P false verdict is = is

pub where-if : (P : Verdict → Type 0) (holds : Bool) (verdict : Verdict) → (holds ≡ true → P verdict) → IfSome (cond holds (Some verdict) None) P
where-if P true verdict is = is refl
where-if P false verdict is = tt

mapped-if : {A : Type 0} (P : Verdict → Type 0) (f : A → Verdict) (found : Option A) → ((x : A) → P (f x)) → IfSome (option_map f found) P
mapped-if P f None is = tt
mapped-if P f (Some x) is = is x

left-if : (P : Verdict → Type 0) (b : Bool) (found : Option Verdict) → IfSome found P → IfSome (cond b None found) P
left-if P true found is = tt
left-if P false found is = is

-- a cause that isn't there doesn't hold
not-there : {A : Type 0} (b : Bool) (verdict : Verdict) → cond b (Some verdict) None ≡ None → (A → b ≡ true) → A → ⊥
not-there true verdict none holds is = none-some verdict (sym none)
not-there false verdict none holds is = false≢true (holds is)

-- ---- no draw is asked for where it stops

abbrev IsUndrawn : Verdict → Type 0
IsUndrawn verdict = is_drawn (Some verdict) ≡ false

asked-undrawn : (step : ℕ) (words : List (Option Event)) (view : List Seen) (entry : Option Asked) → IfSome (other_than_asked step words view entry) IsUndrawn
asked-undrawn step words view None = tt
asked-undrawn step words view (Some entry) = unless-if IsUndrawn (can_make words view entry) (verdict.Asked step entry.thread entry.event _) refl

left-undrawn : (step : ℕ) (words : List (Option Event)) (list : Option (List Asked)) → IfSome (left_over step words list) IsUndrawn
left-undrawn step words None = tt
left-undrawn step words (Some list) = left-if IsUndrawn (ltb step (length list)) (option_map (Left step) (first_with_word words)) (mapped-if IsUndrawn (Left step) (first_with_word words) (λ thread. refl))

some-if : (P : Verdict → Type 0) (found : Option Verdict) (verdict : Verdict) → IfSome found P → found ≡ Some verdict → P verdict
some-if P found verdict is there = subst (λ f. IfSome f P) there is

module _ {S O : Type 0} (core : CoreState S O) (running : Running S O) where
  abbrev step : ℕ
  step = length core.journal

  abbrev words : List (Option Event)
  words = map last_word core.words

  abbrev asked : Option Verdict
  asked = other_than_asked step words running.view (asked_at running.walk.rule step)

  abbrev wrong : Option Verdict
  wrong = option_map (wrong_verdict step) (wrong_of running.walk running.view)

  abbrev ended : Option Verdict
  ended = cond (count_by is_announcing running.view == 0) (Some Ended) None

  abbrev limit : Option Verdict
  limit = cond (step == core.opening.max_steps) (Some (StepLimit step)) None

  abbrev stuck : Option Verdict
  stuck = cond (length (able_threads running.view) == 0) (Some (Deadlock step)) None

  abbrev left : Option Verdict
  left = left_over step words (asked_list running.walk.rule)

  pub stop-undrawn : (verdict : Verdict) → stop_at core running ≡ Some verdict → is_drawn (Some verdict) ≡ false
  stop-undrawn verdict there =
      some-if IsUndrawn (stop_at core running) verdict
      (first-if IsUndrawn asked (wrong ∷ ended ∷ limit ∷ stuck ∷ left ∷ []) (asked-undrawn step words running.view (asked_at running.walk.rule step))
      (first-if IsUndrawn wrong (ended ∷ limit ∷ stuck ∷ left ∷ []) (mapped-if IsUndrawn (wrong_verdict step) (wrong_of running.walk running.view) (λ wrong. refl))
      (first-if IsUndrawn ended (limit ∷ stuck ∷ left ∷ []) (where-if IsUndrawn (count_by is_announcing running.view == 0) Ended (λ is. refl))
      (first-if IsUndrawn limit (stuck ∷ left ∷ []) (where-if IsUndrawn (step == core.opening.max_steps) (StepLimit step) (λ is. refl))
      (first-if IsUndrawn stuck (left ∷ []) (where-if IsUndrawn (length (able_threads running.view) == 0) (Deadlock step) (λ is. refl))
      (first-if IsUndrawn left [] (left-undrawn step words (asked_list running.walk.rule)) tt))))))
      there

  -- ---- where it goes on, a thread can be picked

  pub record CanGoOn : Type 0 where
    pub right : wrong_of running.walk running.view ≡ None
    pub room : step < STEPS
    pub able : 0 < length (able_threads running.view)
    pub asked : AsksAble (asked_list running.walk.rule) step running.view

  pub stop-none : IsDecidable core running → stop_at core running ≡ None → CanGoOn
  stop-none is none =
      let some = first-none asked (wrong ∷ ended ∷ limit ∷ stuck ∷ left ∷ []) none in
      let counted = first-none wrong (ended ∷ limit ∷ stuck ∷ left ∷ []) some.1 in
      let going = first-none ended (limit ∷ stuck ∷ left ∷ []) counted.1 in
      let short = first-none limit (stuck ∷ left ∷ []) going.1 in
      let able = first-none stuck (left ∷ []) short.1 in
      let more = first-none left [] able.1 in
      let below : step ≢ core.opening.max_steps = not-there (step == core.opening.max_steps) (StepLimit step) short.0 (λ e. eq-eqb step core.opening.max_steps e) in
      let announcing = not-there (count_by is_announcing running.view == 0) Ended going.0 (λ e. eq-eqb (count_by is_announcing running.view) 0 e) in
      record {
        right = none-mapped (wrong_verdict step) (wrong_of running.walk running.view) counted.0;
        room = omega (arith, is.short, is.most, below);
        able = positive (length (able_threads running.view)) (not-there (length (able_threads running.view) == 0) (Deadlock step) able.0 (λ e. eq-eqb (length (able_threads running.view)) 0 e));
        asked = asked-able step words running.view (asked_list running.walk.rule) some.0 more.0 (sym is.seen ∙ some-counted is_announcing running.view announcing);
      }
