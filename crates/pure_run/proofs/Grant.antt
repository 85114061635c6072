-- A thread that is granted its step.
use Rattle.std.proofs.Common.{◌≡◌, ◌≢◌, ℕ, zero, suc, ◌+◌, ◌&&◌, ◌<◌, ◌≤◌, leb, Bool, true, false, cond, List, [], ◌∷◌, length, get_or, map, is_some, slice_get, Option, None, Some, IsTrue, IsSomeAnd, refl, ap, sym, subst, ◌∙◌, inl, inr, arith}
use Rattle.std.proofs.lemmas.Bool.{cases_lt, false≢true, leb-false}
use Rattle.std.proofs.lemmas.Option.{get_or_from_slice_get, same_Some, slice_get_within}
use Rattle.std.specs.List.{list_any}
use Rattle.event_class.specs.declared.event.Event.{Event}
use Rattle.event_class.specs.Selection.{has}
use Rattle.seed_draws.specs.declared.draws.Draws.{Ghosts}
use Rattle.test_world.specs.World.{is_enabled, reply}
use Rattle.walk_rules.specs.declared.picked.Grant.{Grant}
use Rattle.walk_rules.specs.declared.picked.Picked.{Picked}
use Rattle.walk_rules.specs.declared.picked.Picked.TheVariants as picked
use Rattle.walk_rules.specs.Seen.{is_able, seen_of}
use Rattle.walk_rules.specs.Strategies.{counts_down}
use Rattle.run_rules.specs.declared.entry.Entry.{Entry}
use Rattle.run_rules.specs.declared.verdict.Verdict.{Verdict}
use Rattle.run_rules.specs.RuleChoice.{choice}
use Rattle.run_rules.specs.NumbersLeft.{left_by}
use Rattle.run_rules.specs.EventsMade.{events_made}
use Rattle.run_rules.specs.Position.{Position, seen_at, world_at}
use Rattle.run_rules.specs.Setup.{Setup}
use Rattle.run_rules.specs.Verdict.{is_miscounted, verdict_at, wrong_count}
use Rattle.run_rules.proofs.GrantedChoices.{is-counted}
use Rattle.run_rules.proofs.WrongCounts.{none-miscounted}
use Rattle.run_rules.proofs.Numbers.{left-any}
use Rattle.run_rules.proofs.Verdicts.{limit-none, verdict-none}
use Rattle.run_rules.proofs.Words.{has-word}
use Rattle.pure_run.specs.declared.next.Next.TheVariants.{Due, Granted}
use Rattle.pure_run.specs.declared.running.Running.{Running}
use Rattle.pure_run.specs.declared.word.Word.{Word}
use Rattle.pure_run.specs.declared.word.Word.TheVariants as word
use Rattle.pure_run.specs.declared.word.Word.TheVariants.{Said}
use Rattle.pure_run.specs.Core.{CoreState, IsGrantedStep, IsStep, granted_of, is_due, last_word, position, setup_by, thread_of}
use Rattle.pure_run.specs.Invariant.{IsAbleNext, IsCore, next_by}

below-limit : (n limit : ℕ) → n ≢ limit → n ≤ limit → n + 1 ≤ limit
below-limit n limit differ short = elim (cases_lt n limit) [ inl below ↦ omega (arith, below) | inr past ↦ absurd (differ (omega (arith, past, short))) ]

-- the journal has room for the step
pub room : (setup : Setup) (x : Position) → verdict_at setup x ≡ None → length x.journal ≤ setup.max_steps → length x.journal + 1 ≤ setup.max_steps
room setup x going short = below-limit (length x.journal) setup.max_steps (limit-none setup x ((verdict-none setup x going).short)) short

-- a selected event is left for a thread that announces one
fewer-made : (selected : Bool) (counted made : ℕ) → (selected && leb counted made) ≡ false → selected ≡ true → made < counted
fewer-made true counted made right is = leb-false counted made right
fewer-made false counted made right is = absurd (false≢true is)

pub made-fewer : (setup : Setup) (x : Position) (thread : ℕ) (event : Event) → wrong_count setup x ≡ None → thread < length x.words
    → get_or x.words thread None ≡ Some event → IsTrue (counts_down setup.rule) → has setup.selection event ≡ true
    → events_made setup.selection x.journal thread < get_or setup.counts thread 0
made-fewer setup x thread event none within word counts selected =
    let counted : ℕ = get_or setup.counts thread 0 in
    let made : ℕ = events_made setup.selection x.journal thread in
    let right : is_miscounted setup.selection counted made (Some event) ≡ false =
    ap (is_miscounted setup.selection counted made) (sym word) ∙ is-counted setup x thread (none-miscounted setup x counts none) within in
    fewer-made (has setup.selection event) counted made right selected

some-left : (counting : Bool) (setup : Setup) (x : Position) (thread : ℕ) → IsTrue counting
    → events_made setup.selection x.journal thread < get_or setup.counts thread 0 → 0 < get_or (left_by counting setup x) thread 0
some-left true setup x thread counts fewer =
    let left = left-any setup.selection setup.counts x.journal thread in
    omega (arith, fewer, left)
some-left false setup x thread counts fewer = absurd (false≢true counts)

-- so a number is left
pub left-some : (setup : Setup) (x : Position) (thread : ℕ) (event : Event) → wrong_count setup x ≡ None → thread < length x.words
    → get_or x.words thread None ≡ Some event → IsTrue (counts_down setup.rule) → IsTrue (has setup.selection event)
    → 0 < get_or (left_by (counts_down setup.rule) setup x) thread 0
left-some setup x thread event none within word counts selected =
    some-left (counts_down setup.rule) setup x thread counts (made-fewer setup x thread event none within word counts selected)

-- the thread that is granted a step announces an event that is enabled
pub able-word : (setup : Setup) (x : Position) (thread : ℕ) → IsTrue (is_able (seen_of (seen_at setup x) thread))
    → IsSomeAnd (get_or x.words thread None) (λ event. IsTrue (is_enabled (world_at setup x) event))
able-word setup x thread able =
    let has = has-word setup x thread able in
    subst (λ word. IsSomeAnd word (λ event. IsTrue (is_enabled (world_at setup x) event))) (sym has.word) has.enabled

-- a core grants a thread its step
pub record IsGrantOf (due : Bool) (verdict : Option Verdict) (chosen : Picked) (thread : ℕ) : Type 0 where
  pub forced : Bool
  pub said : due ≡ false
  pub going : verdict ≡ None
  pub choice : chosen ≡ picked.Grant thread forced

pub grant-of : (due : Bool) (verdict : Option Verdict) (chosen : Picked) (thread : ℕ) → cond due None (cond (is_some verdict) None (thread_of chosen)) ≡ Some thread
    → IsGrantOf due verdict chosen thread
grant-of true verdict chosen thread is = cc
grant-of false (Some verdict) chosen thread is = cc
grant-of false None (picked.Grant other forced) thread is = record { forced = forced; said = refl; going = refl; choice = cc }
grant-of false None (picked.Stop fault) thread is = cc

-- so it is what comes next
pub next-granted : (due : Bool) (verdict : Option Verdict) (chosen : Picked) (thread : ℕ) (grant : IsGrantOf due verdict chosen thread)
    → cond due Due (next_by verdict chosen) ≡ Granted (record { thread = thread; forced = grant.forced })
next-granted due verdict chosen thread grant =
    ap (λ (b : Bool). cond b Due (next_by verdict chosen)) grant.said
    ∙ ap (λ v. next_by v chosen) grant.going
    ∙ ap (λ c. next_by None c) grant.choice

mark-of : (grant other : Grant) → Granted grant ≡ Granted other → grant.forced ≡ other.forced
mark-of grant other same = cc

-- a word that is an event was said
pub word-said : (words : List Word) (thread : ℕ) (event : Event) → get_or (map last_word words) thread None ≡ Some event → slice_get words thread ≡ Some (Said (Some event))
word-said [] thread event is = cc
word-said (word.Due ∷ words) zero event is = cc
word-said (Said None ∷ words) zero event is = cc
word-said (Said (Some other) ∷ words) zero event is = ap (λ word. Some (Said word)) is
word-said (word ∷ words) (suc thread) event is = word-said words thread event is

-- an event that a thread announces, and the mark of its grant, are those of its step
pub granted-step : {S O : Type 0} (setup : Setup) (core : CoreState S O) (thread : ℕ) (event : Event)
    → (grant : IsGrantOf (list_any is_due core.words) (verdict_at setup (position core)) (choice setup (position core)) thread)
    → get_or (position core).words thread None ≡ Some event → IsTrue (is_enabled (world_at setup (position core)) event)
    → IsGrantedStep setup core thread event grant.forced
granted-step setup core thread event grant word enabled = record {
  said = grant.said;
  going = grant.going;
  chosen = grant.choice;
  word = word-said core.words thread event word;
  enabled = enabled;
  replied = refl;
}

-- the step with the reply that the world gave
pub replied-step : {S O : Type 0} (setup : Setup) (core : CoreState S O) (thread replied : ℕ) (event : Event) (forced : Bool) → IsGrantedStep setup core thread event forced
    → replied ≡ reply (world_at setup (position core)) thread event → IsStep setup core (record { thread = thread; event = event; reply = replied; forced = forced })
replied-step setup core thread replied event forced step is = record {
  said = step.said;
  going = step.going;
  chosen = step.chosen;
  word = step.word;
  enabled = step.enabled;
  replied = is;
}

module _ {S O : Type 0} (selected_draws : Ghosts S) (other_draws : Ghosts O) (core : CoreState S O) (running : Running S O)
    (is : IsCore selected_draws other_draws core running) where
  abbrev setup : Setup
  setup = setup_by selected_draws other_draws core

  -- a step that is granted comes next
  pub next-is : (entry : Entry) → IsStep setup core entry → running.next ≡ Granted (record { thread = entry.thread; forced = entry.forced })
  next-is entry step =
      is.decided.next
      ∙ next-granted (list_any is_due core.words) (verdict_at setup (position core)) (choice setup (position core)) entry.thread
      (record { forced = entry.forced; said = step.said; going = step.going; choice = step.chosen })

  -- the step that is granted to a thread
  pub record HasStep (thread : ℕ) : Type 0 where
    pub event : Event
    pub forced : Bool
    pub step : IsGrantedStep setup core thread event forced
    pub next_is : running.next ≡ Granted (record { thread = thread; forced = forced })

  pub has-step : (thread : ℕ) → granted_of setup core ≡ Some thread → HasStep thread
  has-step thread granted =
      let grant = grant-of (list_any is_due core.words) (verdict_at setup (position core)) (choice setup (position core)) thread granted in
      let next_is : running.next ≡ Granted (record { thread = thread; forced = grant.forced }) =
      is.decided.next ∙ next-granted (list_any is_due core.words) (verdict_at setup (position core)) (choice setup (position core)) thread grant in
      let able = subst (λ n. IsAbleNext (seen_at setup (position core)) n) next_is (subst (λ v. IsAbleNext v running.next) is.decided.parts.view is.decided.able) in
      let has = has-word setup (position core) thread able in
      record {
        event = has.event;
        forced = grant.forced;
        step = granted-step setup core thread has.event grant has.word has.enabled;
        next_is = next_is;
      }

  module _ (thread : ℕ) (granted : granted_of setup core ≡ Some thread) where
    pub thread-within : thread < length core.words
    thread-within = slice_get_within core.words thread (Said (Some (has-step thread granted).event)) (has-step thread granted).step.word

    -- the word of the thread, read in its place
    pub last-is : (read : List Word) (place : ℕ) → read ≡ core.words → place ≡ thread → last_word (get_or read place word.Due) ≡ Some (has-step thread granted).event
    last-is read place read_is place_is =
        ap (λ ws. last_word (get_or ws place word.Due)) read_is
        ∙ ap (λ n. last_word (get_or core.words n word.Due)) place_is
        ∙ ap last_word (get_or_from_slice_get core.words thread (Said (Some (has-step thread granted).event)) word.Due (has-step thread granted).step.word)

    -- the step by its event and mark, as they are found
    pub step-at : (event : Event) (grant : Grant) → Some event ≡ Some (has-step thread granted).event → running.next ≡ Granted grant
        → IsGrantedStep setup core thread event grant.forced
    step-at event grant event_is grant_is =
        let step = has-step thread granted in
        let same : event ≡ step.event = same_Some event step.event event_is in
        let forced : grant.forced ≡ step.forced = mark-of grant (record { thread = thread; forced = step.forced }) (sym grant_is ∙ step.next_is) in
        subst (λ e. IsGrantedStep setup core thread e grant.forced) (sym same)
        (subst (λ f. IsGrantedStep setup core thread step.event f) (sym forced) step.step)
