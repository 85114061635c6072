-- The run under SURW is the run under URW, where every event is selected and nothing blocks.
use Rattle.std.proofs.Common.{◌≡◌, ℕ, Bool, false, List, [], ◌∷◌, ◌++◌, length, take, slice_get, get_or, Option, None, Some, IsSome, Result, Ok, Err, refl, ap, sym, subst, ◌∙◌, arith}
use Rattle.std.proofs.lemmas.Option.{slice_get_within}
use Rattle.std.specs.Option.{option_map}
use Rattle.seed_draws.specs.declared.draw_fault.DrawFault.{DrawFault}
use Rattle.seed_draws.specs.Answers.{IsSource, NeverRefuses}
use Rattle.walk_rules.specs.declared.picked.Picked.TheVariants.{Grant}
use Rattle.walk_rules.specs.declared.rule.Rule.{Rule}
use Rattle.walk_rules.specs.declared.rule.Rule.TheVariants.{Surw, Urw}
use Rattle.walk_rules.specs.Granted.{granted_at}
use Rattle.walk_rules.specs.Strategies.{asked_list, counts_down}
use Rattle.walk_rules.specs.Urw.{urw_thread}
use Rattle.run_rules.specs.declared.entry.Entry.{Entry}
use Rattle.run_rules.specs.declared.verdict.Verdict.{Verdict}
use Rattle.run_rules.specs.Bounds.{answers_at}
use Rattle.run_rules.specs.LegalJournal.{IsLegal}
use Rattle.run_rules.specs.NumbersLeft.{left_at}
use Rattle.run_rules.specs.Position.{Position, position_of, seen_at}
use Rattle.run_rules.specs.Setup.{Setup, Script}
use Rattle.run_rules.specs.SurwChoice.{surw_choice}
use Rattle.run_rules.specs.UrwChoice.{urw_bounds_at, urw_choice}
use Rattle.run_rules.specs.Verdict.{first_miscounted, wrong_count, end_of_threads, step_limit, deadlock, refusal, first_of, verdict_at, miscount}
use Rattle.run_rules.proofs.Prefixes.{AtEach, at-prefix, at-whole, each-prefix}
use Rattle.run_rules.proofs.RunPrefixes.{GoesOnAfter, prefixes-going, going-prefixes}
use Rattle.run_rules.proofs.Scripts.{legal-prefix}
use Rattle.run_rules.proofs.Verdicts.{grant-parts, verdict-none, verdict-unasked}
use Rattle.run_rules.proofs.WrongCounts.{none-miscounted}
use Rattle.selected_order.specs.SurwIsUrw.{SurwIsUrw, setup_under, script_under}
use Rattle.selected_order.proofs.EndsInOrder.{choice-is}
use Rattle.selected_order.proofs.FreeChoice.{other-answers}
use Rattle.selected_order.proofs.NoDeadlock.{no-deadlock}
use Rattle.selected_order.proofs.NothingLeft.{wrong-is}
use Rattle.selected_order.proofs.SameBounds.{IsStepwise, stepwise-none, stepwise-more}
use Rattle.selected_order.proofs.SameChoice.{choice-same}
use Rattle.selected_order.proofs.SameNumbers.{IsEvery}

-- what is asked of a script and its sources
record IsSame (script : Script) : Type 0 where
  rule : script.setup.rule ≡ Surw
  every : IsEvery script
  selected : IsSource script.setup.selected.answers
  other : IsSource script.setup.other.answers
  never : NeverRefuses script.setup.other.answers

-- a grant of URW isn't forced
granted-free : (thread_of : ℕ → ℕ) (answer : Result (List ℕ) DrawFault) (thread : ℕ) (forced : Bool)
    → granted_at thread_of answer ≡ Grant thread forced → forced ≡ false
granted-free thread_of (Ok draws) thread forced granted = sym (grant-parts (thread_of (get_or draws 0 0)) thread false forced granted).1
granted-free thread_of (Err fault) thread forced granted = absurd cc

urw-free : (setup : Setup) (x : Position) (thread : ℕ) (forced : Bool) → urw_choice setup x ≡ Grant thread forced → forced ≡ false
unfolding urw_choice
urw-free setup x thread forced granted =
    granted-free (urw_thread (left_at setup x) (seen_at setup x)) (answers_at setup.selected.answers (urw_bounds_at setup) x) thread forced granted

-- ---- the verdict

last-same : (a b c d e f : Option Verdict) → (a ≡ None → b ≡ None → c ≡ None → d ≡ None → e ≡ f)
    → first_of (a ∷ b ∷ c ∷ d ∷ e ∷ []) ≡ first_of (a ∷ b ∷ c ∷ d ∷ f ∷ [])
last-same (Some v) b c d e f same = refl
last-same None (Some v) c d e f same = refl
last-same None None (Some v) d e f same = refl
last-same None None None (Some v) e f same = refl
last-same None None None None e f same = ap (λ v. first_of (v ∷ [])) (same refl refl refl refl)

none-counted : (setup : Setup) (x : Position) → setup.rule ≡ Surw → wrong_count setup x ≡ None → first_miscounted setup x ≡ None
none-counted setup x rule none = none-miscounted setup x (ap counts_down rule) none

-- URW's choice doesn't look at the rule
urw-under : (setup : Setup) (x : Position) → urw_choice (setup_under Urw setup) x ≡ urw_choice setup x
unfolding urw_choice seen_at
urw-under setup x = refl

verdict-same : (setup : Setup) (x : Position) → setup.rule ≡ Surw
    → (first_miscounted setup x ≡ None → deadlock setup x ≡ None → surw_choice setup x ≡ urw_choice setup x)
    → verdict_at setup x ≡ verdict_at (setup_under Urw setup) x
unfolding seen_at urw_choice
verdict-same setup x rule same =
    let n : ℕ = length x.journal in
    let wrong : Option Verdict = option_map (miscount setup x) (first_miscounted setup x) in
    verdict-unasked setup x (ap asked_list rule)
    ∙ (λ i. first_of (wrong-is setup x rule i ∷ end_of_threads x ∷ step_limit setup x ∷ deadlock setup x ∷ refusal n (choice-is setup x rule i) ∷ []))
    ∙ last-same wrong (end_of_threads x) (step_limit setup x) (deadlock setup x) (refusal n (surw_choice setup x)) (refusal n (urw_choice setup x))
    (λ counted more short able. ap (refusal n) (same (none-counted setup x rule (wrong-is setup x rule ∙ counted)) able))
    ∙ sym (verdict-unasked (setup_under Urw setup) x refl)

-- ---- one prefix after another

same-at : (script : Script) (journal : List Entry) → IsSame script → IsLegal script journal → AtEach (GoesOnAfter script) journal → IsStepwise script journal
    → first_miscounted script.setup (position_of script journal) ≡ None → deadlock script.setup (position_of script journal) ≡ None
    → surw_choice script.setup (position_of script journal) ≡ urw_choice script.setup (position_of script journal)
unfolding position_of
same-at script journal is legal prefixes step counted going =
    choice-same script journal is.every legal step counted going is.selected is.other
    (other-answers script.setup (position_of script journal) is.never (no-deadlock script journal legal prefixes) going)

step-next : (script : Script) (journal : List Entry) → IsSame script → IsLegal script journal → AtEach (GoesOnAfter script) journal → (k : ℕ) (entry : Entry)
    → slice_get journal k ≡ Some entry → IsStepwise script (take k journal) → IsStepwise script (take k journal ++ entry ∷ [])
step-next script journal is legal prefixes k entry at step =
    let setup : Setup = script.setup in
    let prefix : List Entry = take k journal in
    let x : Position = position_of script prefix in
    let goes = prefixes k entry at in
    let parts = verdict-none setup x goes.going in
    let counted = none-counted setup x is.rule parts.counted in
    let before : IsLegal script prefix = legal-prefix script journal k legal in
    let same = same-at script prefix is before (each-prefix (GoesOnAfter script) journal k prefixes) step counted parts.able in
    let free = urw-free setup x entry.thread entry.forced (sym same ∙ sym (choice-is setup x is.rule) ∙ goes.chosen) in
    stepwise-more script prefix entry is.every before counted (legal k entry at).announced free step

-- the rule is no part of what is legal
pub legal-under : (script : Script) (rule other : Rule) (journal : List Entry) → IsLegal (script_under rule script) journal → IsLegal (script_under other script) journal
legal-under script rule other journal legal k entry at =
    let next = legal k entry at in
    record { announced = next.announced; enabled = next.enabled; replied = next.replied }

legal-again : (script : Script) (rule : Rule) (journal : List Entry) → IsLegal (script_under rule script) journal → IsLegal script journal
legal-again script rule journal legal k entry at =
    let next = legal k entry at in
    record { announced = next.announced; enabled = next.enabled; replied = next.replied }

-- after each prefix the run under URW goes on with the same entry
urw-prefixes : (script : Script) (journal : List Entry) → IsSame script → IsLegal script journal → AtEach (GoesOnAfter script) journal
    → AtEach (GoesOnAfter (script_under Urw script)) journal
unfolding position_of
urw-prefixes script journal is legal prefixes k entry at =
    let setup : Setup = script.setup in
    let prefix : List Entry = take k journal in
    let x : Position = position_of script prefix in
    let goes = prefixes k entry at in
    let parts = verdict-none setup x goes.going in
    let step : IsStepwise script prefix =
    at-prefix (IsStepwise script) journal (stepwise-none script) (step-next script journal is legal prefixes) k (omega (arith, slice_get_within journal k entry at)) in
    let same = same-at script prefix is (legal-prefix script journal k legal) (each-prefix (GoesOnAfter script) journal k prefixes) step in
    record {
      going = sym (verdict-same setup x is.rule same) ∙ goes.going;
      chosen = urw-under setup x ∙ sym (same (none-counted setup x is.rule parts.counted) parts.able) ∙ sym (choice-is setup x is.rule) ∙ goes.chosen;
    }

pub surw-is-urw : SurwIsUrw
unfolding position_of
surw-is-urw plain counted selected other never journal every free run =
    let script : Script = script_under Surw plain in
    let is : IsSame script = record {
      rule = refl;
      every = record { counted = counted; every = every; free = λ journal legal. free journal (legal-again plain Surw journal legal) };
      selected = selected;
      other = other;
      never = never;
    } in
    let legal : IsLegal script journal = run.legal in
    let prefixes : AtEach (GoesOnAfter script) journal = going-prefixes script journal legal run.going in
    let step : IsStepwise script journal =
    at-whole (IsStepwise script) journal (stepwise-none script) (step-next script journal is legal prefixes) in
    let same = verdict-same script.setup (position_of script journal) refl (same-at script journal is legal prefixes step) in
    let again : IsLegal (script_under Urw plain) journal = legal-under plain Surw Urw journal legal in (
      record {
        legal = again;
        going = prefixes-going (script_under Urw plain) journal again (urw-prefixes script journal is legal prefixes);
        stops = subst (λ (v : Option Verdict). IsSome v) same run.stops;
      },
      same,
    )
