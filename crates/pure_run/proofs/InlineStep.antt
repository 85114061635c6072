-- A step of a run on one thread.
use Rattle.std.proofs.Common.{◌≡◌, ℕ, ◌<◌, List, length, get_or, set, Some, is_some, IsSome, ap, sym, subst, ◌∙◌}
use Rattle.std.proofs.lemmas.Option.{get_or_from_slice_get, slice_get_within}
use Rattle.std.specs.List.{slice_get}
use Rattle.routine_kit.specs.declared.routine.Routine as routine
use Rattle.seed_draws.specs.Answers.{source_of}
use Rattle.seed_draws.specs.declared.draws.Draws as draws
use Rattle.run_rules.specs.declared.entry.Entry.{Entry}
use Rattle.run_rules.specs.declared.plan.Plan.{Plan}
use Rattle.run_rules.specs.LegalJournal.{IsLegalNext}
use Rattle.run_rules.specs.Plan.{script_of, setup_of}
use Rattle.run_rules.proofs.Scripts.{legal-more}
use Rattle.pure_run.specs.declared.word.Word.TheVariants.{Due, Said}
use Rattle.pure_run.specs.Core.{CoreState, IsStep, IsStepTo, after_entry, after_word, setup_by}
use Rattle.pure_run.specs.Inline.{IsInline, said_by, told_routines}
use Rattle.pure_run.specs.Opening.{setup_in}
use Rattle.pure_run.proofs.Routines.{HasRoutine, has-routine, said-step, says-at, told-step}

module _ {R S O : Type 0} (behaviour : routine.Ghosts R) (draws_s : draws.Ghosts S) (draws_o : draws.Ghosts O)
    (core : CoreState S O) (routines : List R) (thread replied : ℕ) (core-then : CoreState S O)
    (said : core.words ≡ said_by behaviour routines) (step : IsStepTo (setup_by draws_s draws_o core) core thread replied core-then) where
  abbrev entry : Entry
  entry = record { thread = thread; event = step.event; reply = replied; forced = step.forced }

  -- the routine of the thread
  pub mine : HasRoutine behaviour routines thread step.event
  mine = has-routine behaviour routines thread step.event (sym (ap (λ words. slice_get words thread) said) ∙ step.step.word)

  pub thread-within : thread < length routines
  thread-within = slice_get_within routines thread mine.routine mine.at

  -- read in its place
  pub routine-is : (place : ℕ) (default : R) → place ≡ thread → get_or routines place default ≡ mine.routine
  routine-is place default is = ap (λ n. get_or routines n default) is ∙ get_or_from_slice_get routines thread mine.routine default mine.at

  pub announces : (found : R) → found ≡ mine.routine → IsSome (behaviour.announced found)
  announces found is = ap (λ r. is_some (behaviour.announced r)) is ∙ ap is_some mine.says

  abbrev then : R
  then = behaviour.after_reply mine.routine replied

  pub inline-step : (plan : Plan R S O) → IsInline behaviour draws_s draws_o plan core routines
      → (core-said : CoreState S O) (routines-then : List R) → core-said ≡ after_word core-then thread (behaviour.announced then) → routines-then ≡ set routines thread then
      → IsInline behaviour draws_s draws_o plan core-said routines-then
  inline-step plan inline core-said routines-then core_is routines_is =
      let script = script_of behaviour draws_s draws_o plan in
      let same : setup_by draws_s draws_o core ≡ setup_of draws_s draws_o plan =
      ap (λ opening. setup_in (source_of draws_s opening.selected) (source_of draws_o opening.other) opening) inline.opening in
      let there : IsStep script.setup core entry = subst (λ setup. IsStep setup core entry) same step.step in
      let told : slice_get (told_routines behaviour plan.routines.items core.journal) thread ≡ Some mine.routine =
      sym (ap (λ rs. slice_get rs thread) inline.told) ∙ mine.at in
      let next : IsLegalNext script core.journal entry = record {
        announced = says-at behaviour plan.routines.items core.journal thread mine.routine told ∙ mine.says;
        enabled = there.enabled;
        replied = there.replied;
      } in
      subst (λ c. IsInline behaviour draws_s draws_o plan c routines-then) (sym (core_is ∙ ap (λ c. after_word c thread (behaviour.announced then)) step.after))
      (subst (λ rs. IsInline behaviour draws_s draws_o plan (after_word (after_entry core entry) thread (behaviour.announced then)) rs) (sym routines_is)
      (record {
        opening = inline.opening;
        legal = legal-more script core.journal entry inline.legal next;
        told = ap (λ rs. set rs thread then) inline.told ∙ told-step behaviour plan.routines.items core.journal entry mine.routine told;
        said = ap (λ words. set (set words thread Due) thread (Said (behaviour.announced then))) said ∙ said-step behaviour routines thread then;
      }))
