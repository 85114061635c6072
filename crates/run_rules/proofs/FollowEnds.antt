-- At the end of its list a replay stops.
use Rattle.std.proofs.Common.{◌≡◌, ℕ, ◌≤◌, Bool, cond, IsSome, is_some, List, [], ◌∷◌, length, Option, None, Some, refl, ap, sym, ◌∙◌, inl, inr, arith}
use Rattle.std.proofs.lemmas.Bool.{cases_Bool, le-ltb}
use Rattle.std.proofs.lemmas.Option.{slice_get_past}
use Rattle.std.specs.List.{list_any}
use Rattle.std.specs.Option.{option_map}
use Rattle.event_class.specs.declared.event.Event.{Event}
use Rattle.walk_rules.specs.declared.asked.Asked.{Asked}
use Rattle.walk_rules.specs.declared.rule.Rule.TheVariants.{Follow}
use Rattle.walk_rules.specs.Strategies.{asked_at, asked_list}
use Rattle.run_rules.specs.declared.verdict.Verdict.{Verdict}
use Rattle.run_rules.specs.declared.verdict.Verdict.TheVariants.{Ended, Left}
use Rattle.run_rules.specs.Position.{Position, seen_at}
use Rattle.run_rules.specs.Replay.{verdict_at_end}
use Rattle.run_rules.specs.RuleChoice.{choice}
use Rattle.run_rules.specs.Setup.{Script, Setup}
use Rattle.run_rules.specs.Verdict.{deadlock, end_of_threads, first_of, first_with_word, left_over, other_than_asked, refusal, step_limit, verdict_at}
use Rattle.run_rules.proofs.AskedEntries.{finds-word}
use Rattle.run_rules.proofs.FollowSteps.{follows, none-counted}
use Rattle.run_rules.proofs.Verdicts.{left_there, unlike_asked}

-- past the end of the list no entry is asked for
asked-past : (setup : Setup) (x : Position) (list : List Asked) → setup.rule ≡ Follow list → length list ≤ length x.journal → unlike_asked setup x ≡ None
asked-past setup x list rule past =
    let n : ℕ = length x.journal in
    ap (λ r. other_than_asked n x.words (seen_at setup x) (asked_at r n)) rule
    ∙ ap (λ asked. other_than_asked n x.words (seen_at setup x) asked) (slice_get_past list n past)

-- what is left over where a list is at its end
abbrev left_at_end : ℕ → List (Option Event) → Option Verdict
left_at_end step words = option_map (Left step) (first_with_word words)

over : (step : ℕ) (words : List (Option Event)) (list : List Asked) → length list ≤ step → left_over step words (Some list) ≡ left_at_end step words
over step words list past = ap (λ (b : Bool). cond b None (left_at_end step words)) (le-ltb step (length list) past)

left-past : (setup : Setup) (x : Position) (list : List Asked) → setup.rule ≡ Follow list → length list ≤ length x.journal
    → left_there setup x ≡ left_over (length x.journal) x.words (Some [])
left-past setup x list rule past =
    let n : ℕ = length x.journal in
    ap (λ r. left_over n x.words (asked_list r)) rule ∙ over n x.words list past ∙ sym (over n x.words [] (omega arith))

none-last : (a b c d : Option Verdict) → first_of (a ∷ b ∷ c ∷ d ∷ None ∷ []) ≡ first_of (a ∷ b ∷ c ∷ d ∷ [])
none-last (Some v) b c d = refl
none-last None (Some v) c d = refl
none-last None None (Some v) d = refl
none-last None None None (Some v) = refl
none-last None None None None = refl

-- the verdict there is the one at the end of the list
pub verdict-past : (replay : Script) (x : Position) (list : List Asked) → replay.setup.rule ≡ Follow list → length list ≤ length x.journal
    → verdict_at replay.setup x ≡ verdict_at_end replay x
unfolding verdict_at
verdict-past replay x list rule past =
    let setup : Setup = replay.setup in
    let ended : Option Verdict = end_of_threads x in
    let limit : Option Verdict = step_limit setup x in
    let stuck : Option Verdict = deadlock setup x in
    let left : Option Verdict = left_over (length x.journal) x.words (Some []) in
    let granted : refusal (length x.journal) (choice setup x) ≡ None = ap (refusal (length x.journal)) (follows setup x list rule) in
    (λ i. first_of
    (asked-past setup x list rule past i
    ∷ none-counted setup x list rule i
    ∷ ended
    ∷ limit
    ∷ stuck
    ∷ left-past setup x list rule past i
    ∷ granted i
    ∷ []))
    ∙ none-last ended limit stuck left

some-last : (limit stuck : Option Verdict) (found : Option ℕ) (step : ℕ) → (found ≡ None → ⊥)
    → IsSome (first_of (None ∷ limit ∷ stuck ∷ option_map (Left step) found ∷ []))
some-last (Some v) stuck found step some = refl
some-last None (Some v) found step some = refl
some-last None None (Some thread) step some = refl
some-last None None None step some = absurd (some refl)

-- there is one: either each thread has ended, or one has a word
pub some-at-end : (replay : Script) (x : Position) → IsSome (verdict_at_end replay x)
some-at-end replay x =
    let n : ℕ = length x.journal in
    let limit : Option Verdict = step_limit replay.setup x in
    let stuck : Option Verdict = deadlock replay.setup x in
    let parts = λ (ended left : Option Verdict). first_of (ended ∷ limit ∷ stuck ∷ left ∷ []) in
    let left : left_over n x.words (Some []) ≡ left_at_end n x.words = over n x.words [] (omega arith) in
    elim (cases_Bool (list_any is_some x.words)) [
      | inl some ↦
          ap is_some (λ i. parts (cond (some i) None (Some Ended)) (left i))
          ∙ some-last limit stuck (first_with_word x.words) n (finds-word x.words some)
      | inr no_word ↦ ap is_some (λ i. parts (cond (no_word i) None (Some Ended)) (left i))
    ]
