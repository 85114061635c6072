-- A kept core that has a verdict and agrees with all logs is the run.
use Rattle.std.proofs.Common.{◌≡◌, ℕ, zero, suc, ◌+◌, ◌<◌, Bool, cond, List, [], ◌∷◌, ◌++◌, length, get_or, map, take, drop, Option, None, Some, is_some, IsSome, not, refl, ap, sym, subst, ◌∙◌, inl, inr, arith, slice_get}
use Rattle.std.proofs.lemmas.List.{get_or_past, length-map, length-set}
use Rattle.std.proofs.lemmas.Option.{none-some, slice_get-map}
use Rattle.std.proofs.lemmas.Bool.{cases_lt}
use Rattle.std.specs.List.{list_any, range_with_len}
use Rattle.std.specs.Option.{option_map}
use Rattle.event_class.specs.declared.event.Event.{Event}
use Rattle.routine_kit.specs.declared.routine.Routine as routine
use Rattle.routine_kit.specs.Run.{after_replies}
use Rattle.seed_draws.specs.declared.draws.Draws as draws
use Rattle.run_rules.specs.declared.entry.Entry.{Entry}
use Rattle.run_rules.specs.declared.plan.Plan.{Plan}
use Rattle.run_rules.specs.declared.verdict.Verdict.{Verdict}
use Rattle.run_rules.specs.LegalJournal.{IsLegal}
use Rattle.run_rules.specs.Plan.{script_of, setup_of}
use Rattle.run_rules.specs.Position.{position_at, position_of, words_before}
use Rattle.run_rules.specs.Run.{GoesOn, IsRun}
use Rattle.run_rules.specs.Replies.{announcement, replies_told, routine_says}
use Rattle.run_rules.specs.Setup.{Script}
use Rattle.run_rules.specs.Verdict.{verdict_at}
use Rattle.pure_run.specs.Core.{CoreState, is_due, position, verdict_of}
use Rattle.pure_run.specs.Finish.{outcome_at}
use Rattle.pure_run.specs.Invariant.{IsKept}
use Rattle.pure_run.specs.Opening.{IsOpeningOf, OpeningState, opening_of}
use Rattle.gate_core.specs.Log.{AreOwn, Follows, LogState, made_by}
use Rattle.gate_core.proofs.Logs.{last-told, says-before}

length-before : (entries : List Entry) (words : List (Option Event)) → length (words_before entries words) ≡ length words
unfolding words_before
length-before [] words = refl
length-before (entry ∷ entries) words = length-set (words_before entries words) entry.thread (Some entry.event) ∙ length-before entries words

within-words : (words : List (Option Event)) (thread : ℕ) (event : Event) → get_or words thread None ≡ Some event → thread < length words
within-words words thread event is = elim (cases_lt thread (length words)) [
  | inl within ↦ within
  | inr past ↦ absurd (none-some event (sym (get_or_past words thread None past) ∙ is))
]

-- a list by its items
list-by : {X : Type 0} (q : ℕ → X) (d : X) (n : ℕ) (xs : List X) → ((k : ℕ) → k < length xs → get_or xs k d ≡ q (n + k)) → xs ≡ map q (range_with_len n (length xs))
list-by q d n [] each = refl
list-by q d n (x ∷ xs) each =
    ap (λ y. y ∷ xs) (each 0 (omega arith) ∙ ap q (omega arith))
    ∙ ap (λ ys. q n ∷ ys) (list-by q d (n + 1) xs (λ k lt. each (suc k) (omega (arith, lt)) ∙ ap q (omega arith)))

-- an item within a list is there
gone : {X : Type 0} (xs : List X) (k : ℕ) → slice_get xs k ≡ None → k < length xs → ⊥
gone [] k at within = omega (arith, within)
gone (x ∷ xs) zero at within = none-some x (sym at)
gone (x ∷ xs) (suc k) at within = gone xs k at (omega (arith, within))

cut-at : {X : Type 0} (xs : List X) (k : ℕ) (x : X) → slice_get xs k ≡ Some x → xs ≡ take k xs ++ x ∷ drop (k + 1) xs
cut-at [] k x at = absurd (none-some x at)
cut-at (y ∷ xs) zero x at = cc
cut-at (y ∷ xs) (suc k) x at = ap (λ rest. y ∷ rest) (cut-at xs k x at) ∙ (let e : suc (k + 1) ≡ suc k + 1 = omega arith in ap (λ n. take (suc k) (y ∷ xs) ++ x ∷ drop n (y ∷ xs)) e)

module _ {R S O : Type 0} (behaviour : routine.Ghosts R) (draws_s : draws.Ghosts S) (draws_o : draws.Ghosts O) (plan : Plan R S O)
    (core : CoreState S O) (logs : List (LogState R))
    (starts : map (λ log. log.start) logs ≡ plan.routines.items)
    (kept : IsKept (setup_of draws_s draws_o plan) core)
    (own : AreOwn behaviour core.journal (position core).words logs) where
  abbrev script : Script
  script = script_of behaviour draws_s draws_o plan

  record HasLog (thread : ℕ) : Type 0 where
    log : LogState R
    at : slice_get logs thread ≡ Some log
    routine : slice_get plan.routines.items thread ≡ Some log.start

  long : length logs ≡ length core.words
  long = sym (length-map logs (λ log. log.start)) ∙ ap length starts ∙ sym kept.each

  words-long : length (position core).words ≡ length core.words
  words-long = length-map core.words _

  has-log-of : (o : Option (LogState R)) (thread : ℕ) → slice_get logs thread ≡ o → thread < length logs → HasLog thread
  has-log-of None thread at within = absurd (gone logs thread at within)
  has-log-of (Some log) thread at within = record {
    log = log;
    at = at;
    routine = ap (λ rs. slice_get rs thread) (sym starts) ∙ slice_get-map (λ (l : LogState R). l.start) logs thread ∙ ap (option_map (λ (l : LogState R). l.start)) at;
  }

  has-log : (thread : ℕ) → thread < length logs → HasLog thread
  has-log thread within = has-log-of (slice_get logs thread) thread refl within

  announces : (front : List Entry) (thread : ℕ) (has : HasLog thread)
      → announcement script front thread ≡ behaviour.announced (after_replies behaviour.after_reply has.log.start (replies_told front thread))
  announces front thread has = ap (λ o. routine_says behaviour o (replies_told front thread)) has.routine

  owned : (thread : ℕ) (has : HasLog thread) → Follows behaviour has.log.start (made_by thread core.journal) has.log.now
  owned thread has = let o = own thread has.log has.at in subst (λ items. Follows behaviour has.log.start items has.log.now) o.items o.follows

  pub is-legal : IsLegal script core.journal
  unfolding position_at
  is-legal k entry at =
      let keeps = kept.entries k entry at in
      let within : entry.thread < length logs =
      omega (arith, within-words (words_before (drop k core.journal) (position core).words) entry.thread entry.event keeps.said, length-before (drop k core.journal) (position core).words, words-long, long) in
      let has = has-log entry.thread within in
      let f = subst (λ journal. Follows behaviour has.log.start (made_by entry.thread journal) has.log.now) (cut-at core.journal k entry at) (owned entry.thread has) in
      record {
        announced =
            announces (take k core.journal) entry.thread has
            ∙ says-before behaviour has.log.start has.log.now entry.thread (take k core.journal) entry (drop (k + 1) core.journal) refl f;
        enabled = keeps.enabled;
        replied = keeps.replied;
      }

  pub words-said : (position core).words ≡ map (announcement script core.journal) (range_with_len 0 script.setup.threads)
  words-said =
      list-by (announcement script core.journal) None 0 (position core).words
      (λ k lt.
      let has = has-log k (omega (arith, lt, words-long, long)) in
      (own k has.log has.at).word
      ∙ ap behaviour.announced (last-told behaviour has.log.start has.log.now k core.journal (owned k has))
      ∙ sym (announces core.journal k has)
      ∙ ap (announcement script core.journal) (omega arith))
      ∙ ap (λ n. map (announcement script core.journal) (range_with_len 0 n)) (words-long ∙ kept.each)

  found : (due : Bool) (o : Option Verdict) (verdict : Verdict) → cond due None o ≡ Some verdict → o ≡ Some verdict
  found Bool.true o verdict is = absurd (none-some verdict is)
  found Bool.false o verdict is = is

  pub is-run : (verdict : Verdict) → verdict_of script.setup core ≡ Some verdict → IsRun script (outcome_at script.setup (position core) verdict)
  unfolding position_of
  is-run verdict is =
      let found : verdict_at script.setup (position core) ≡ Some verdict = found (list_any is_due core.words) (verdict_at script.setup (position core)) verdict is in
      let place : position core ≡ position_of script core.journal = ap (λ ws. record { journal = core.journal; words = ws }) words-said in
      subst (λ x. IsRun script (outcome_at script.setup x verdict)) (sym place)
      (record {
        run = record {
          legal = is-legal;
          going = subst (λ x. GoesOn script.setup x) place kept.going;
          stops = ap is_some (sym (ap (verdict_at script.setup) place) ∙ found);
        };
        verdict = sym (ap (verdict_at script.setup) place) ∙ found;
        words = refl;
        world = refl;
        bent = refl;
        selection = refl;
        monitors = refl;
        failed = refl;
      })

-- a core that was opened as a plan was opened with its parts
pub opening-is : {R S O : Type 0} (draws_s : draws.Ghosts S) (draws_o : draws.Ghosts O) (opening : OpeningState S O) (plan : Plan R S O)
    → ((x y : S) → draws_s.counts_as_one x y ≡ Bool.true → x ≡ y) → ((x y : O) → draws_o.counts_as_one x y ≡ Bool.true → x ≡ y)
    → IsOpeningOf draws_s draws_o opening plan → opening ≡ opening_of plan
opening-is draws_s draws_o opening plan same_selected same_other is =
    let selected = same_selected opening.selected plan.selected is.selected in
    let other = same_other opening.other plan.other is.other in
    λ i. record {
      size = is.size i;
      threads = is.threads i;
      selection = is.selection i;
      walk = is.walk i;
      selected = selected i;
      other = other i;
      max_steps = is.max_steps i;
      monitors = is.monitors i;
    }

pub some-of : {A : Type 0} (o : Option A) (b : Bool) → is_some o ≡ not b → b ≡ Bool.false → IsSome o
some-of o b is off = is ∙ ap not off
