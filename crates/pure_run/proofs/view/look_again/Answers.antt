use Rattle.std.proofs.Common.{◌≡◌, ◌+◌, ap, sym, subst, ◌∙◌, arith}
use Rattle.std.proofs.lemmas.Grind.{common_steps}
use Rattle.walk_rules.specs.Seen.{seen_of}
use Rattle.pure_run.specs.View.{seen_now}
use Rattle.pure_run.proofs.Views.{AreSeenAgain, again-first, again-kept, again-set}
use Rattle.pure_run.proofs.view.look_again.Goals as goal
use Rattle.pure_run.proofs.view.look_again.Goals.{then-acquires, else-acquires}

pub loop-thread-init : goal.loop-thread-init
loop-thread-init c = record { few = c.requires.few; again = again-first c.args.lock c.args.enabled c.args.words.now c.args.view.now c.requires.each }

pub loop-thread-preserved : goal.loop-thread-preserved
loop-thread-preserved c =
    elim c.if-acquires.branch [
      | then-acquires w ↦
          let place : w.unwrap-thread.result ≡ c.loop-thread.thread = grind (arith, common_steps, w.unwrap-thread.ensures, w.new.ensures) in
          record {
            few = c.requires.few;
            again =
                subst (λ view. AreSeenAgain c.args.lock c.args.enabled c.args.words.now c.args.view.now view (c.loop-thread.thread + 1)) (sym (w.view-is ∙ w.set.ensures))
                (again-set c.args.lock c.args.enabled c.args.words.now c.args.view.now c.loop-thread.view c.loop-thread.thread c.loop-thread.invariant.again
                c.loop-thread-test.true (sym c.acquires.ensures ∙ w.if-acquires.true) w.unwrap-thread.result w.seen_now.result place
                (w.seen_now.ensures ∙ ap (seen_now c.args.enabled) (w.get.ensures ∙ ap (seen_of c.loop-thread.view) place)));
          }
      | else-acquires w ↦
          record {
            few = c.requires.few;
            again =
                subst (λ view. AreSeenAgain c.args.lock c.args.enabled c.args.words.now c.args.view.now view (c.loop-thread.thread + 1)) (sym w.view-is)
                (again-kept c.args.lock c.args.enabled c.args.words.now c.args.view.now c.loop-thread.view c.loop-thread.thread c.loop-thread.invariant.again
                (sym c.acquires.ensures ∙ w.if-acquires.false));
          }
    ]
