-- The choice where the run goes on: it is granted, to a thread that is able.
use Rattle.std.proofs.Common.{◌≡◌, ℕ, zero, suc, ◌+◌, ◌<◌, ◌≤◌, Bool, false, IsTrue, IsOk, is_ok, List, [], ◌∷◌, ◌++◌, length, get_or, None, ap, sym, subst, ◌∙◌, arith}
use Rattle.std.proofs.lemmas.List.{flat_map_more}
use Rattle.seed_draws.specs.Answers.{IsSource, answers_after}
use Rattle.seed_draws.proofs.Asked.{after-ok, has-draws, source-after}
use Rattle.walk_rules.specs.declared.picked.Picked.TheVariants.{Grant}
use Rattle.walk_rules.specs.Seen.{is_able, seen_of}
use Rattle.walk_rules.specs.Strategies.{strategy}
use Rattle.walk_rules.specs.Walk.{CanPick, GrantsAble}
use Rattle.walk_rules.proofs.StrategyLaws.{is-strategy}
use Rattle.walk_rules.proofs.WrongThreads.{none-below}
use Rattle.run_rules.specs.EventsMade.{events_made}
use Rattle.run_rules.specs.Position.{Position, earlier, position_at, seen_at, world_at}
use Rattle.run_rules.specs.RuleChoice.{choice, choices, other_asked, selected_asked, walk_at}
use Rattle.run_rules.specs.Setup.{Setup, IsValid}
use Rattle.run_rules.specs.StepwisePicks.{WereAnswered}
use Rattle.run_rules.specs.Verdict.{first_miscounted, is_miscounted, is_miscounted_at, verdict_at}
use Rattle.run_rules.proofs.AskedEntries.{asks-able}
use Rattle.run_rules.proofs.EarlierPositions.{earlier-next, position-here}
use Rattle.run_rules.proofs.StrategyPicks.{picks-choices}
use Rattle.run_rules.proofs.Verdicts.{verdict-none, IsGranted, refusal-none}
use Rattle.run_rules.proofs.WholeSelection.{chosen-under}
use Rattle.run_rules.proofs.Words.{HasWord, able-some, has-word, length-seen, some-able}
use Rattle.run_rules.proofs.WrongCounts.{counts-right}

-- ---- no thread is miscounted

pub is-counted : (setup : Setup) (x : Position) (thread : ℕ) → first_miscounted setup x ≡ None → thread < length x.words
    → is_miscounted setup.selection (get_or setup.counts thread 0) (events_made setup.selection x.journal thread) (get_or x.words thread None) ≡ false
is-counted setup x thread none within = none-below (is_miscounted_at setup x) (length x.words) thread none within

-- ---- what was asked was answered

-- where all was answered before a position and a step is granted there, all that was asked there was answered too
module _ (setup : Setup) (x : Position) (source_s : IsSource setup.selected.answers) (source_o : IsSource setup.other.answers)
    (answered : WereAnswered (choices setup.rule) setup (earlier x)) where
  abbrev asked_s : List ℕ
  asked_s = selected_asked setup (earlier x)

  abbrev asked_o : List ℕ
  asked_o = other_asked setup (earlier x)

  rest-s : IsSource (answers_after setup.selected.answers asked_s)
  rest-s = let had = has-draws (setup.selected.answers asked_s) answered.selected in source-after setup.selected.answers asked_s had.draws source_s had.is

  rest-o : IsSource (answers_after setup.other.answers asked_o)
  rest-o = let had = has-draws (setup.other.answers asked_o) answered.other in source-after setup.other.answers asked_o had.draws source_o had.is

  pub granted-answered : (thread : ℕ) (forced : Bool) → choice setup x ≡ Grant thread forced → WereAnswered (choices setup.rule) setup (earlier x ++ x ∷ [])
  granted-answered thread forced granted =
      let f = picks-choices setup.rule in
      let ok = (is-strategy setup.rule).answered (walk_at setup x) (seen_at setup x) (answers_after setup.selected.answers asked_s)
      (answers_after setup.other.answers asked_o)
      thread forced rest-s rest-o (f.picks setup x answered ∙ granted) in
      let here_s : IsOk (answers_after setup.selected.answers asked_s ((choices setup.rule).selected_at setup x)) =
      subst (λ bounds. IsOk (answers_after setup.selected.answers asked_s bounds)) (f.asks_selected setup x answered) ok.0 in
      let here_o : IsOk (answers_after setup.other.answers asked_o ((choices setup.rule).other_at setup x)) =
      subst (λ bounds. IsOk (answers_after setup.other.answers asked_o bounds)) (f.asks_other setup x answered) ok.1 in
      record {
        selected =
            subst (λ bounds. IsOk (setup.selected.answers bounds)) (flat_map_more ((choices setup.rule).selected_at setup) [] (earlier x) x)
            (after-ok (length asked_s) (setup.selected.answers (asked_s ++ (choices setup.rule).selected_at setup x)) here_s);
        other =
            subst (λ bounds. IsOk (setup.other.answers bounds)) (flat_map_more ((choices setup.rule).other_at setup) [] (earlier x) x)
            (after-ok (length asked_o) (setup.other.answers (asked_o ++ (choices setup.rule).other_at setup x)) here_o);
      }

  -- a step that is granted is that of an able thread
  pub granted-able : (thread : ℕ) (forced : Bool) → IsValid setup → verdict_at setup x ≡ None → choice setup x ≡ Grant thread forced
      → IsTrue (is_able (seen_of (seen_at setup x) thread))
  unfolding seen_at
  granted-able thread forced valid going granted =
      let parts = verdict-none setup x going in
      let some = some-able setup x parts.able in
      let has = has-word setup x some.thread some.able in
      let can : CanPick (strategy setup.rule) (walk_at setup x) (seen_at setup x) = record {
        able = able-some (seen_at setup x) some.thread (omega (arith, has.within, length-seen setup x)) some.able;
        right = counts-right setup x parts.counted;
        chosen = chosen-under setup.rule (world_at setup x) setup.selection x.words valid.every;
        asked = asks-able setup x parts;
      } in
      subst (λ picked. GrantsAble (seen_at setup x) picked) ((picks-choices setup.rule).picks setup x answered ∙ granted)
      ((is-strategy setup.rule).able (walk_at setup x) (seen_at setup x) (answers_after setup.selected.answers asked_s)
      (answers_after setup.other.answers asked_o) rest-s rest-o can)

-- no earlier position has a verdict
abbrev pub GoesSoFar : Setup → Position → Type 0
GoesSoFar setup x = (k : ℕ) → k < length x.journal → verdict_at setup (position_at x k) ≡ None

-- a choice where the run goes on is granted
pub going-granted : (setup : Setup) (x : Position) → verdict_at setup x ≡ None → IsGranted (choice setup x)
going-granted setup x going = refusal-none (length x.journal) (choice setup x) (verdict-none setup x going).granted

-- where the run went on, all that was asked was answered
answered-before : (setup : Setup) (x : Position) → IsSource setup.selected.answers → IsSource setup.other.answers → GoesSoFar setup x
    → (k : ℕ) → k ≤ length x.journal → WereAnswered (choices setup.rule) setup (earlier (position_at x k))
unfolding earlier position_at
answered-before setup x source_s source_o before zero within =
    record { selected = ap is_ok source_s.none; other = ap is_ok source_o.none }
answered-before setup x source_s source_o before (suc k) within =
    let y : Position = position_at x k in
    let lt : k < length x.journal = omega (arith, within) in
    let one : k + 1 ≡ suc k = omega arith in
    let granted = going-granted setup y (before k lt) in
    subst (λ n. WereAnswered (choices setup.rule) setup (earlier (position_at x n))) one
    (subst (λ xs. WereAnswered (choices setup.rule) setup xs) (sym (earlier-next x k lt))
    (granted-answered setup y source_s source_o (answered-before setup x source_s source_o before k (omega (arith, lt))) granted.thread granted.forced granted.is))

pub answered-so-far : (setup : Setup) (x : Position) → IsSource setup.selected.answers → IsSource setup.other.answers → GoesSoFar setup x
    → WereAnswered (choices setup.rule) setup (earlier x)
answered-so-far setup x source_s source_o before =
    subst (λ y. WereAnswered (choices setup.rule) setup (earlier y)) (position-here x)
    (answered-before setup x source_s source_o before (length x.journal) (omega arith))

-- the choice where the run goes on: an able thread with its word
pub record HasChoice (setup : Setup) (x : Position) : Type 0 where
  pub thread : ℕ
  pub forced : Bool
  pub chosen : choice setup x ≡ Grant thread forced
  pub able : IsTrue (is_able (seen_of (seen_at setup x) thread))
  pub word : HasWord setup x thread

pub has-choice : (setup : Setup) (x : Position) → IsValid setup → IsSource setup.selected.answers → IsSource setup.other.answers
    → GoesSoFar setup x → verdict_at setup x ≡ None → HasChoice setup x
has-choice setup x valid selected other before here =
    let granted : IsGranted (choice setup x) = going-granted setup x here in
    let answered = answered-so-far setup x selected other before in
    let able = granted-able setup x selected other answered granted.thread granted.forced valid here granted.is in
    record { thread = granted.thread; forced = granted.forced; chosen = granted.is; able = able; word = has-word setup x granted.thread able }
