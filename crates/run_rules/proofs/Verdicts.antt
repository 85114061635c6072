-- Where there is no verdict: each of its parts is none.
use Rattle.std.proofs.Common.{◌≡◌, ◌≢◌, ℕ, Bool, true, cond, List, [], ◌∷◌, length, Option, None, Some, is_some, refl, ap, sym, ◌∙◌, inl, inr}
use Rattle.std.proofs.lemmas.Bool.{cases_Bool, eq-eqb}
use Rattle.std.proofs.lemmas.Option.{none-some}
use Rattle.std.specs.List.{list_any}
use Rattle.walk_rules.specs.declared.picked.Picked.{Picked}
use Rattle.walk_rules.specs.declared.picked.Picked.TheVariants.{Grant, Stop}
use Rattle.walk_rules.specs.Seen.{is_able}
use Rattle.walk_rules.specs.Strategies.{asked_at, asked_list, entry_in}
use Rattle.run_rules.specs.declared.verdict.Verdict.{Verdict}
use Rattle.run_rules.specs.declared.verdict.Verdict.TheVariants.{Draw, StepLimit, Deadlock, Ended}
use Rattle.run_rules.specs.Position.{Position, seen_at}
use Rattle.run_rules.specs.RuleChoice.{choice}
use Rattle.run_rules.specs.Setup.{Setup}
use Rattle.run_rules.specs.Verdict.{other_than_asked, wrong_count, end_of_threads, step_limit, deadlock, left_over, refusal, first_of, verdict_at}

pub first-none : (verdict : Option Verdict) (rest : List (Option Verdict)) → first_of (verdict ∷ rest) ≡ None → (verdict ≡ None) × (first_of rest ≡ None)
first-none None rest none = (refl, none)
first-none (Some verdict) rest none = absurd (none-some verdict (sym none))

none-first : (verdict : Option Verdict) (rest : List (Option Verdict)) → verdict ≡ None → first_of (verdict ∷ rest) ≡ first_of rest
none-first verdict rest none = ap (λ v. first_of (v ∷ rest)) none

-- what is asked for at a position, looked at there
abbrev pub unlike_asked : Setup → Position → Option Verdict
unlike_asked setup x = other_than_asked (length x.journal) x.words (seen_at setup x) (asked_at setup.rule (length x.journal))

abbrev pub left_there : Setup → Position → Option Verdict
left_there setup x = left_over (length x.journal) x.words (asked_list setup.rule)

-- none of the causes to stop holds at a position
pub record HasNoVerdict (setup : Setup) (x : Position) : Type 0 where
  pub asked : unlike_asked setup x ≡ None
  pub counted : wrong_count setup x ≡ None
  pub going : end_of_threads x ≡ None
  pub short : step_limit setup x ≡ None
  pub able : deadlock setup x ≡ None
  pub more : left_there setup x ≡ None
  pub granted : refusal (length x.journal) (choice setup x) ≡ None

-- where there is no verdict each part is none
pub verdict-none : (setup : Setup) (x : Position) → verdict_at setup x ≡ None → HasNoVerdict setup x
unfolding verdict_at
verdict-none setup x none =
    let last : List (Option Verdict) = refusal (length x.journal) (choice setup x) ∷ [] in
    let stuck : List (Option Verdict) = deadlock setup x ∷ left_there setup x ∷ last in
    let asked = first-none (unlike_asked setup x) (wrong_count setup x ∷ end_of_threads x ∷ step_limit setup x ∷ stuck) none in
    let counted = first-none (wrong_count setup x) (end_of_threads x ∷ step_limit setup x ∷ stuck) asked.1 in
    let going = first-none (end_of_threads x) (step_limit setup x ∷ stuck) counted.1 in
    let short = first-none (step_limit setup x) stuck going.1 in
    let able = first-none (deadlock setup x) (left_there setup x ∷ last) short.1 in
    let more = first-none (left_there setup x) last able.1 in
    let granted = first-none (refusal (length x.journal) (choice setup x)) [] more.1 in
    record {
      asked = asked.0;
      counted = counted.0;
      going = going.0;
      short = short.0;
      able = able.0;
      more = more.0;
      granted = granted.0;
    }

-- where each part is none there is no verdict
pub none-verdict : (setup : Setup) (x : Position) → HasNoVerdict setup x → verdict_at setup x ≡ None
unfolding verdict_at
none-verdict setup x none =
    let last : List (Option Verdict) = refusal (length x.journal) (choice setup x) ∷ [] in
    let stuck : List (Option Verdict) = deadlock setup x ∷ left_there setup x ∷ last in
    none-first (unlike_asked setup x) (wrong_count setup x ∷ end_of_threads x ∷ step_limit setup x ∷ stuck) none.asked
    ∙ none-first (wrong_count setup x) (end_of_threads x ∷ step_limit setup x ∷ stuck) none.counted
    ∙ none-first (end_of_threads x) (step_limit setup x ∷ stuck) none.going
    ∙ none-first (step_limit setup x) stuck none.short
    ∙ none-first (deadlock setup x) (left_there setup x ∷ last) none.able
    ∙ none-first (left_there setup x) last none.more
    ∙ none-first (refusal (length x.journal) (choice setup x)) [] none.granted

-- where no entry is asked for, neither of these two is a cause to stop
pub record AsksNothing (setup : Setup) (x : Position) : Type 0 where
  pub asked : unlike_asked setup x ≡ None
  pub more : left_there setup x ≡ None

pub asks-nothing : (setup : Setup) (x : Position) → asked_list setup.rule ≡ None → AsksNothing setup x
asks-nothing setup x none = record {
  asked = ap (λ list. other_than_asked (length x.journal) x.words (seen_at setup x) (entry_in list (length x.journal))) none;
  more = ap (λ list. left_over (length x.journal) x.words list) none;
}

skip-none : (a b c d last : Option Verdict) → first_of (a ∷ b ∷ c ∷ d ∷ None ∷ last ∷ []) ≡ first_of (a ∷ b ∷ c ∷ d ∷ last ∷ [])
skip-none (Some a) b c d last = refl
skip-none None (Some b) c d last = refl
skip-none None None (Some c) d last = refl
skip-none None None None (Some d) last = refl
skip-none None None None None last = refl

-- so the other causes are all
pub verdict-unasked : (setup : Setup) (x : Position) → asked_list setup.rule ≡ None
    → verdict_at setup x
    ≡ first_of (wrong_count setup x ∷ end_of_threads x ∷ step_limit setup x ∷ deadlock setup x ∷ refusal (length x.journal) (choice setup x) ∷ [])
unfolding verdict_at
verdict-unasked setup x none =
    let last : Option Verdict = refusal (length x.journal) (choice setup x) in
    (λ i. first_of (other_than_asked (length x.journal) x.words (seen_at setup x) (entry_in (none i) (length x.journal)) ∷ wrong_count setup x ∷ end_of_threads x
    ∷ step_limit setup x ∷ deadlock setup x ∷ left_over (length x.journal) x.words (none i) ∷ last ∷ []))
    ∙ skip-none (wrong_count setup x) (end_of_threads x) (step_limit setup x) (deadlock setup x) last

-- some thread has a word
pub going-none : (x : Position) → end_of_threads x ≡ None → list_any is_some x.words ≡ true
going-none x none =
    elim (cases_Bool (list_any is_some x.words)) [
      | inl some ↦ some
      | inr not_one ↦ absurd (none-some Ended (sym none ∙ ap (λ (b : Bool). cond b None (Some Ended)) not_one))
    ]

-- the journal is not as long as it may be
pub limit-none : (setup : Setup) (x : Position) → step_limit setup x ≡ None → length x.journal ≢ setup.max_steps
limit-none setup x none full =
    let limit : Verdict = StepLimit (length x.journal) in
    none-some limit
    (sym none ∙ ap (λ (b : Bool). cond b (Some limit) None) (eq-eqb (length x.journal) setup.max_steps full))

-- some thread is able
pub deadlock-none : (setup : Setup) (x : Position) → deadlock setup x ≡ None → list_any is_able (seen_at setup x) ≡ true
deadlock-none setup x none =
    let stuck : Verdict = Deadlock (length x.journal) in
    elim (cases_Bool (list_any is_able (seen_at setup x))) [
      | inl some ↦ some
      | inr not_one ↦ absurd (none-some stuck (sym none ∙ ap (λ (b : Bool). cond b None (Some stuck)) not_one))
    ]

-- a choice that isn't refused
pub record IsGranted (picked : Picked) : Type 0 where
  pub thread : ℕ
  pub forced : Bool
  pub is : picked ≡ Grant thread forced

pub refusal-none : (step : ℕ) (picked : Picked) → refusal step picked ≡ None → IsGranted picked
refusal-none step (Grant thread forced) none = record { thread = thread; forced = forced; is = refl }
refusal-none step (Stop fault) none = absurd (none-some (Draw step fault) (sym none))

-- two grants that are one are of one thread with one mark
pub grant-parts : (thread other : ℕ) (forced marked : Bool) → Grant thread forced ≡ Grant other marked → (thread ≡ other) × (forced ≡ marked)
grant-parts thread other forced marked same = (cc, cc)
