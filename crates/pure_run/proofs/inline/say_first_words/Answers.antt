use Rattle.std.proofs.Common.{◌≡◌, ◌++◌, ◌-◌, length, take, set, replicate, ap, ◌∙◌, arith}
use Rattle.std.proofs.lemmas.Grind.{common_steps}
use Rattle.pure_run.specs.declared.word.Word.TheVariants.{Due, Said}
use Rattle.pure_run.specs.Core.{after_word}
use Rattle.pure_run.specs.Inline.{said_by}
use Rattle.pure_run.proofs.InlineRun.{said-more}
use Rattle.pure_run.proofs.inline.say_first_words.Goals as goal

pub loop-thread-preserved : goal.loop-thread-preserved
loop-thread-preserved g c =
    let routines = c.args.routines.now in
    let n = c.loop-thread.thread in
    let thread : c.unwrap.result ≡ n = grind (arith, common_steps) in
    let words = said_by g.R.Routine (take n routines) ++ replicate (length routines - n) Due in
    record {
      core =
          c.say.ensures
          ∙ ap (λ core. after_word core c.unwrap.result c.announce.result) c.loop-thread.invariant.core
          ∙ ap (λ ws. record c.args.core.now { words = ws })
          (ap (λ m. set words m (Said c.announce.result)) thread
          ∙ ap (λ event. set words n (Said event)) (c.announce.ensures ∙ ap g.R.Routine.announced c.index-routines-thread.is)
          ∙ said-more g.R.Routine routines n _ c.loop-thread-test.true);
      few = c.loop-thread.invariant.few;
    }
