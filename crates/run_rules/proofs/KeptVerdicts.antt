-- The verdicts that a replay has too come of three parts alone.
use Rattle.std.proofs.Common.{◌≡◌, ℕ, Bool, true, false, cond, length, ltb, get_or, List, [], ◌∷◌, Option, None, Some, sym, subst}
use Rattle.std.proofs.lemmas.Option.{none-some, same_Some}
use Rattle.std.specs.Option.{option_map}
use Rattle.event_class.specs.declared.event.Event.{Event}
use Rattle.walk_rules.specs.declared.asked.Asked.{Asked}
use Rattle.walk_rules.specs.declared.picked.Picked.{Picked}
use Rattle.walk_rules.specs.declared.picked.Picked.TheVariants.{Grant, Stop}
use Rattle.walk_rules.specs.declared.seen.Seen.{Seen}
use Rattle.walk_rules.specs.Strategies.{asked_at, asked_list, counts_down}
use Rattle.run_rules.specs.declared.verdict.Verdict.{Verdict}
use Rattle.run_rules.specs.declared.verdict.Verdict.TheVariants as verdict
use Rattle.run_rules.specs.declared.verdict.Verdict.TheVariants.{Draw, Left}
use Rattle.run_rules.specs.Position.{Position, seen_at}
use Rattle.run_rules.specs.Replay.{IsKeptVerdict}
use Rattle.run_rules.specs.RuleChoice.{choice}
use Rattle.run_rules.specs.Setup.{Setup}
use Rattle.run_rules.specs.Verdict.{can_make, deadlock, end_of_threads, first_miscounted, first_of, first_with_word, left_over, miscount, other_than_asked, refusal, step_limit, verdict_at, wrong_count}
use Rattle.run_rules.proofs.Verdicts.{left_there, unlike_asked}

-- no verdict, or one that a replay needn't have
abbrev IsUnkept : Option Verdict → Type 0
IsUnkept found = (verdict : Verdict) → found ≡ Some verdict → IsKeptVerdict verdict → ⊥

none-unkept : IsUnkept None
none-unkept verdict is kept = none-some verdict is

this-unkept : (own : Verdict) → (IsKeptVerdict own → ⊥) → IsUnkept (Some own)
this-unkept own not_kept verdict is kept = not_kept (subst IsKeptVerdict (sym (same_Some own verdict is)) kept)

either-unkept : (test : Bool) (one other : Option Verdict) → IsUnkept one → IsUnkept other → IsUnkept (cond test one other)
either-unkept true one other this that = this
either-unkept false one other this that = that

mapped-unkept : {A : Type 0} (f : A → Verdict) (found : Option A) → ((x : A) → IsKeptVerdict (f x) → ⊥) → IsUnkept (option_map f found)
mapped-unkept f None each = none-unkept
mapped-unkept f (Some x) each = this-unkept (f x) (each x)

asked-unkept : (step : ℕ) (words : List (Option Event)) (view : List Seen) (entry : Option Asked) → IsUnkept (other_than_asked step words view entry)
asked-unkept step words view None = none-unkept
asked-unkept step words view (Some entry) =
    let other : Verdict = verdict.Asked step entry.thread entry.event (get_or words entry.thread None) in
    either-unkept (can_make words view entry) None (Some other) none-unkept (this-unkept other (λ kept. kept))

wrong-unkept : (setup : Setup) (x : Position) → IsUnkept (wrong_count setup x)
wrong-unkept setup x =
    either-unkept (counts_down setup.rule) (option_map (miscount setup x) (first_miscounted setup x)) None
    (mapped-unkept (miscount setup x) (first_miscounted setup x) (λ thread kept. kept)) none-unkept

left-unkept : (step : ℕ) (words : List (Option Event)) (list : Option (List Asked)) → IsUnkept (left_over step words list)
left-unkept step words None = none-unkept
left-unkept step words (Some list) =
    either-unkept (ltb step (length list)) None (option_map (Left step) (first_with_word words)) none-unkept
    (mapped-unkept (Left step) (first_with_word words) (λ thread kept. kept))

refusal-unkept : (step : ℕ) (picked : Picked) → IsUnkept (refusal step picked)
refusal-unkept step (Grant thread forced) = none-unkept
refusal-unkept step (Stop fault) = this-unkept (Draw step fault) (λ kept. kept)

kept-parts : (asked wrong ended limit stuck left refused : Option Verdict) (rest : List (Option Verdict)) (verdict : Verdict)
    → IsUnkept asked → IsUnkept wrong → IsUnkept left → IsUnkept refused → IsKeptVerdict verdict
    → first_of (asked ∷ wrong ∷ ended ∷ limit ∷ stuck ∷ left ∷ refused ∷ []) ≡ Some verdict
    → first_of (ended ∷ limit ∷ stuck ∷ rest) ≡ Some verdict
kept-parts (Some own) wrong ended limit stuck left refused rest verdict one two three four kept is = absurd (one verdict is kept)
kept-parts None (Some own) ended limit stuck left refused rest verdict one two three four kept is = absurd (two verdict is kept)
kept-parts None None (Some own) limit stuck left refused rest verdict one two three four kept is = is
kept-parts None None None (Some own) stuck left refused rest verdict one two three four kept is = is
kept-parts None None None None (Some own) left refused rest verdict one two three four kept is = is
kept-parts None None None None None (Some own) refused rest verdict one two three four kept is = absurd (three verdict is kept)
kept-parts None None None None None None (Some own) rest verdict one two three four kept is = absurd (four verdict is kept)
kept-parts None None None None None None None rest verdict one two three four kept is = absurd (none-some verdict is)

-- a kept verdict is the first of these three, whatever stands behind them
pub kept-first : (setup : Setup) (x : Position) (rest : List (Option Verdict)) (verdict : Verdict) → IsKeptVerdict verdict → verdict_at setup x ≡ Some verdict
    → first_of (end_of_threads x ∷ step_limit setup x ∷ deadlock setup x ∷ rest) ≡ Some verdict
unfolding verdict_at
kept-first setup x rest verdict kept is =
    let n : ℕ = length x.journal in
    kept-parts (unlike_asked setup x) (wrong_count setup x) (end_of_threads x) (step_limit setup x) (deadlock setup x) (left_there setup x)
    (refusal n (choice setup x)) rest verdict
    (asked-unkept n x.words (seen_at setup x) (asked_at setup.rule n))
    (wrong-unkept setup x)
    (left-unkept n x.words (asked_list setup.rule))
    (refusal-unkept n (choice setup x))
    kept is
