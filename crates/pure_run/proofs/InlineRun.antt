-- The run on one thread, from its first words to its end.
use Rattle.std.proofs.Common.{◌≡◌, ◌≢◌, ℕ, suc, ◌+◌, ◌-◌, ◌<◌, Bool, false, cond, List, [], ◌∷◌, ◌++◌, length, get_or, map, take, set, replicate, Option, None, Some, is_some, IsSome, refl, ap, sym, subst, ◌∙◌, arith}
use Rattle.std.proofs.Math.Seq.{set-append_seam}
use Rattle.std.proofs.lemmas.Bool.{false≢true}
use Rattle.std.proofs.lemmas.List.{length-map, length-take-le, map-append, take_more}
use Rattle.std.proofs.lemmas.Option.{none-some}
use Rattle.std.specs.List.{enumerate_from, list_any}
use Rattle.routine_kit.specs.declared.routine.Routine as routine
use Rattle.routine_kit.specs.Run.{after_replies}
use Rattle.seed_draws.specs.Answers.{source_of}
use Rattle.seed_draws.specs.declared.draws.Draws as draws
use Rattle.walk_rules.specs.declared.picked.Picked.{Picked}
use Rattle.run_rules.specs.declared.plan.Plan.{Plan}
use Rattle.run_rules.specs.declared.verdict.Verdict.{Verdict}
use Rattle.run_rules.specs.RuleChoice.{choice}
use Rattle.run_rules.specs.LegalJournal.{IsLegalNext}
use Rattle.run_rules.specs.Plan.{script_of, setup_of}
use Rattle.run_rules.specs.Position.{Position, position_of}
use Rattle.run_rules.specs.Run.{GoesOn, IsRun}
use Rattle.run_rules.specs.Setup.{Script, Setup}
use Rattle.run_rules.specs.Replies.{replies_told}
use Rattle.run_rules.specs.Verdict.{verdict_at}
use Rattle.run_rules.proofs.Prefixes.{each-none}
use Rattle.run_rules.proofs.Verdicts.{limit-none, refusal-none, verdict-none}
use Rattle.pure_run.specs.declared.word.Word.{Word}
use Rattle.pure_run.specs.declared.word.Word.TheVariants.{Due, Said}
use Rattle.pure_run.specs.Core.{CoreState, granted_of, is_due, last_word, position, setup_by, thread_of, verdict_of}
use Rattle.pure_run.specs.Finish.{outcome_at}
use Rattle.pure_run.specs.Inline.{IsInline, said_by, told_routines}
use Rattle.pure_run.specs.Invariant.{IsKept}
use Rattle.pure_run.specs.Opening.{opening_of, setup_in}
use Rattle.pure_run.proofs.Routines.{words-said}

append-one : {X : Type 0} (xs : List X) (x : X) (ys : List X) → (xs ++ x ∷ []) ++ ys ≡ xs ++ x ∷ ys
append-one [] x ys = refl
append-one (z ∷ zs) x ys = ap (λ rest. z ∷ rest) (append-one zs x ys)

-- the words of routines, one more of them said
pub said-more : {R : Type 0} (behaviour : routine.Ghosts R) (routines : List R) (thread : ℕ) (default : R) → thread < length routines
    → set (said_by behaviour (take thread routines) ++ replicate (length routines - thread) Due) thread (Said (behaviour.announced (get_or routines thread default)))
    ≡ said_by behaviour (take (thread + 1) routines) ++ replicate (length routines - (thread + 1)) Due
said-more behaviour routines thread default within =
    let said : List Word = said_by behaviour (take thread routines) in
    let left : ℕ = length routines - (thread + 1) in
    let word : Word = Said (behaviour.announced (get_or routines thread default)) in
    let long : length said ≡ thread = length-map (take thread routines) (λ r. Said (behaviour.announced r)) ∙ length-take-le thread routines (omega (arith, within)) in
    let more : length routines - thread ≡ suc left = omega (arith, within) in
    ap (λ n. set (said ++ replicate n Due) thread word) more
    ∙ ap (λ n. set (said ++ Due ∷ replicate left Due) n word) (sym long)
    ∙ set-append_seam said Due (replicate left Due) word
    ∙ sym (append-one said word (replicate left Due))
    ∙ ap (λ xs. xs ++ replicate left Due)
    (sym (ap (λ rs. said_by behaviour rs) (take_more routines thread default within) ∙ map-append (λ r. Said (behaviour.announced r)) (take thread routines) (get_or routines thread default ∷ [])))

-- no word of routines that have said theirs is due
pub none-due : {R : Type 0} (behaviour : routine.Ghosts R) (routines : List R) → list_any is_due (said_by behaviour routines) ≡ false
none-due behaviour [] = refl
none-due behaviour (r ∷ rs) = none-due behaviour rs

untold : {R : Type 0} (after : R → ℕ → R) (n : ℕ) (routines : List R) → routines ≡ map (λ e. after_replies after e.1 (replies_told [] e.0)) (enumerate_from n routines)
unfolding after_replies replies_told
untold after n [] = refl
untold after n (r ∷ rs) = ap (λ rest. r ∷ rest) (untold after (n + 1) rs)

-- routines that were told nothing
pub told-nothing : {R : Type 0} (behaviour : routine.Ghosts R) (routines : List R) → routines ≡ told_routines behaviour routines []
told-nothing behaviour routines = untold behaviour.after_reply 0 routines

-- there is a verdict where nothing is granted, and where the journal is as long as it may be
verdict-of : (found : Option Verdict) (chosen : Picked) → (found ≡ None → thread_of chosen ≢ None) → cond (is_some found) None (thread_of chosen) ≡ None → IsSome found
verdict-of (Some verdict) chosen grants none = refl
verdict-of None chosen grants none = absurd (grants refl none)

grants-one : (setup : Setup) (x : Position) → verdict_at setup x ≡ None → thread_of (choice setup x) ≢ None
grants-one setup x going none =
    let granted = refusal-none (length x.journal) (choice setup x) ((verdict-none setup x going).granted) in
    none-some granted.thread (sym none ∙ ap thread_of granted.is)

pub stops-ungranted : {S O : Type 0} (setup : Setup) (core : CoreState S O) → list_any is_due core.words ≡ false → granted_of setup core ≡ None → IsSome (verdict_of setup core)
stops-ungranted setup core said none =
    let found : Option Verdict = verdict_at setup (position core) in
    let chosen : Picked = choice setup (position core) in
    let v = verdict-of found chosen (grants-one setup (position core)) (sym (ap (λ (b : Bool). cond b None (cond (is_some found) None (thread_of chosen))) said) ∙ none) in
    ap (λ (b : Bool). is_some (cond b None found)) said ∙ v

is-some : {A : Type 0} (o : Option A) → (o ≡ None → ⊥) → IsSome o
is-some None never = absurd (never refl)
is-some (Some x) never = refl

pub stops-full : {S O : Type 0} (setup : Setup) (core : CoreState S O) → list_any is_due core.words ≡ false → length core.journal ≡ setup.max_steps → IsSome (verdict_of setup core)
stops-full setup core said full =
    let found : Option Verdict = verdict_at setup (position core) in
    ap (λ (b : Bool). is_some (cond b None found)) said
    ∙ is-some found (λ going. limit-none setup (position core) ((verdict-none setup (position core) going).short) full)

module _ {R S O : Type 0} (behaviour : routine.Ghosts R) (draws_s : draws.Ghosts S) (draws_o : draws.Ghosts O) (plan : Plan R S O) where
  abbrev script : Script
  script = script_of behaviour draws_s draws_o plan

  -- the first words
  pub inline-first : (core : CoreState S O) (routines : List R) → routines ≡ plan.routines.items
      → core ≡ record { opening = opening_of plan; journal = []; words = said_by behaviour routines }
      → IsInline behaviour draws_s draws_o plan core routines
  inline-first core routines same is =
      subst (λ c. IsInline behaviour draws_s draws_o plan c routines) (sym is)
      (record {
        opening = refl;
        legal = each-none (IsLegalNext script);
        told = same ∙ told-nothing behaviour plan.routines.items;
        said = refl;
      })

  -- the setup of the core is that of the plan
  pub same-setup : (core : CoreState S O) → core.opening ≡ opening_of plan → setup_by draws_s draws_o core ≡ setup_of draws_s draws_o plan
  same-setup core opening = ap (λ opening. setup_in (source_of draws_s opening.selected) (source_of draws_o opening.other) opening) opening

  -- the end
  pub inline-run : (core : CoreState S O) (routines : List R) (verdict : Verdict) → IsInline behaviour draws_s draws_o plan core routines
      → IsKept script.setup core → verdict_of script.setup core ≡ Some verdict
      → IsRun script (outcome_at script.setup (position core) verdict)
  unfolding position_of
  inline-run core routines verdict inline kept is =
      let said : list_any is_due core.words ≡ false = ap (list_any is_due) inline.said ∙ none-due behaviour routines in
      let found : verdict_at script.setup (position core) ≡ Some verdict =
      sym (ap (λ (b : Bool). cond b None (verdict_at script.setup (position core))) said) ∙ is in
      let words : (position core).words ≡ (position_of script core.journal).words =
      ap (λ ws. map last_word ws) inline.said ∙ words-said behaviour plan.routines.items core.journal routines inline.told in
      let place : position core ≡ position_of script core.journal = ap (λ ws. record { journal = core.journal; words = ws }) words in
      subst (λ x. IsRun script (outcome_at script.setup x verdict)) (sym place)
      (record {
        run = record {
          legal = inline.legal;
          going = subst (λ x. GoesOn script.setup x) place kept.going;
          stops = ap is_some (sym (ap (verdict_at script.setup) place) ∙ found);
        };
        verdict = sym (ap (verdict_at script.setup) place) ∙ found;
        words = refl;
        world = refl;
        bent = refl;
        selection = refl;
        monitors = refl;
        failed = refl;
      })

-- a value that is there
pub record HasSome {A : Type 0} (o : Option A) : Type 0 where
  pub value : A
  pub is : o ≡ Some value

pub has-some : {A : Type 0} (o : Option A) → IsSome o → HasSome o
has-some None some = absurd (false≢true some)
has-some (Some x) some = record { value = x; is = refl }
