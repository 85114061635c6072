-- Where a run under SURW has ended: no thread has a word, and nothing is left.
use Rattle.std.proofs.Common.{◌≡◌, ℕ, suc, ◌==◌, ◌<◌, ◌≤◌, Bool, true, false, cond, List, [], ◌∷◌, length, sum, get_or, Option, None, Some, refl, ap, sym, ◌∙◌, inl, inr, arith}
use Rattle.std.proofs.lemmas.Bool.{cases_lt, ltb-false, false≢true}
use Rattle.std.proofs.lemmas.List.{get_or_past}
use Rattle.std.proofs.lemmas.List.Folds.{list_any_at}
use Rattle.std.proofs.lemmas.List.Sums.{sum_by-cons}
use Rattle.std.specs.List.{list_any}
use Rattle.std.specs.Option.{option_map, is_some}
use Rattle.event_class.specs.declared.event.Event.{Event}
use Rattle.walk_rules.specs.declared.picked.Picked.{Picked}
use Rattle.walk_rules.specs.declared.picked.Picked.TheVariants.{Grant, Stop}
use Rattle.walk_rules.specs.declared.rule.Rule.{Rule}
use Rattle.walk_rules.specs.declared.rule.Rule.TheVariants.{Surw}
use Rattle.walk_rules.specs.Seen.{is_able}
use Rattle.walk_rules.specs.Strategies.{asked_list, counts_down}
use Rattle.run_rules.specs.declared.verdict.Verdict.{Verdict}
use Rattle.run_rules.specs.declared.verdict.Verdict.TheVariants.{Ended, Deadlock, WrongCount, StepLimit}
use Rattle.run_rules.specs.EventsMade.{events_made}
use Rattle.run_rules.specs.NumbersLeft.{numbers_left}
use Rattle.run_rules.specs.Position.{Position, seen_at}
use Rattle.run_rules.specs.RuleChoice.{choice}
use Rattle.run_rules.specs.Setup.{Setup}
use Rattle.run_rules.specs.Verdict.{verdict_at, wrong_count, is_miscounted, first_miscounted, end_of_threads, step_limit, deadlock, refusal, first_of, miscount}
use Rattle.run_rules.proofs.Verdicts.{verdict-unasked}
use Rattle.run_rules.proofs.GrantedChoices.{is-counted}
use Rattle.run_rules.proofs.Numbers.{left-any}

-- ---- the verdict

no-end : (limit able : Bool) (n : ℕ) (picked : Picked)
    → first_of (cond limit (Some (StepLimit n)) None ∷ cond able None (Some (Deadlock n)) ∷ refusal n picked ∷ []) ≡ Some Ended → ⊥
no-end true able n picked is = cc
no-end false false n picked is = cc
no-end false true n (Grant thread forced) is = cc
no-end false true n (Stop fault) is = cc

none-wrong : (f : ℕ → ℕ) (g : ℕ → ℕ) (n : ℕ) (found : Option ℕ) (rest : List (Option Verdict))
    → first_of (option_map (λ thread. WrongCount n thread (f thread) (g thread)) found ∷ rest) ≡ Some Ended
    → (found ≡ None) × (first_of rest ≡ Some Ended)
none-wrong f g n None rest is = (refl, is)
none-wrong f g n (Some thread) rest is = absurd cc

none-going : (some : Bool) (rest : List (Option Verdict)) → (first_of rest ≡ Some Ended → ⊥)
    → first_of (cond some None (Some Ended) ∷ rest) ≡ Some Ended → some ≡ false
none-going true rest never is = absurd (never is)
none-going false rest never is = refl

-- under SURW the wrong count is the least thread's
pub wrong-is : (setup : Setup) (x : Position) → setup.rule ≡ Surw
    → wrong_count setup x ≡ option_map (miscount setup x) (first_miscounted setup x)
wrong-is setup x rule = ap (λ (r : Rule). cond (counts_down r) (option_map (miscount setup x) (first_miscounted setup x)) None) rule

-- it has ended: no count is wrong, and no thread has a word
pub ended-parts : (setup : Setup) (x : Position) → setup.rule ≡ Surw → verdict_at setup x ≡ Some Ended
    → (first_miscounted setup x ≡ None) × (list_any is_some x.words ≡ false)
ended-parts setup x rule is =
    let n : ℕ = length x.journal in
    let later : List (Option Verdict) = step_limit setup x ∷ deadlock setup x ∷ refusal n (choice setup x) ∷ [] in
    let cut = sym (ap (λ wrong. first_of (wrong ∷ end_of_threads x ∷ later)) (wrong-is setup x rule)) ∙ sym (verdict-unasked setup x (ap asked_list rule)) ∙ is in
    let counts = λ (thread : ℕ). get_or setup.counts thread 0 in
    let made = λ (thread : ℕ). events_made setup.selection x.journal thread in
    let counted = none-wrong counts made n (first_miscounted setup x) (end_of_threads x ∷ later) cut in
    (counted.0, none-going (list_any is_some x.words) later (no-end (n == setup.max_steps) (list_any is_able (seen_at setup x)) n (choice setup x)) counted.1)

-- ---- nothing is left

pub sum-none : (xs : List ℕ) → ((k : ℕ) → get_or xs k 0 ≡ 0) → sum xs ≡ 0
sum-none [] each = refl
sum-none (x ∷ xs) each = omega (arith, each 0, sum_by-cons (λ x. x) x xs, sum-none xs (λ k. each (suc k)))

no-word : (words : List (Option Event)) (k : ℕ) (word : Option Event) → k < length words → list_any is_some words ≡ false
    → get_or words k None ≡ word → word ≡ None
no-word words k None lt none is = refl
no-word words k (Some event) lt none is =
    absurd (false≢true (sym none ∙ list_any_at is_some words k None lt (ap is_some is)))

-- where no thread has a word and no count is wrong, each thread made all its events
made-all : (setup : Setup) (x : Position) (thread : ℕ) → first_miscounted setup x ≡ None → list_any is_some x.words ≡ false → thread < length x.words
    → get_or setup.counts thread 0 ≤ events_made setup.selection x.journal thread
made-all setup x thread counted none within =
    let made : ℕ = events_made setup.selection x.journal thread in
    let word = no-word x.words thread (get_or x.words thread None) within none refl in
    ltb-false made (get_or setup.counts thread 0)
    (sym (ap (λ (w : Option Event). is_miscounted setup.selection (get_or setup.counts thread 0) made w) word) ∙ is-counted setup x thread counted within)

pub none-left : (setup : Setup) (x : Position) → length setup.counts ≡ length x.words → first_miscounted setup x ≡ None → list_any is_some x.words ≡ false
    → sum (numbers_left setup.selection setup.counts x.journal) ≡ 0
none-left setup x long counted none =
    sum-none (numbers_left setup.selection setup.counts x.journal)
    (λ thread. elim (cases_lt thread (length x.words)) [
      | inl within ↦ omega (arith, left-any setup.selection setup.counts x.journal thread, made-all setup x thread counted none within)
      | inr past ↦ omega (arith, left-any setup.selection setup.counts x.journal thread, get_or_past setup.counts thread 0 (omega (arith, past, long)))
    ])
