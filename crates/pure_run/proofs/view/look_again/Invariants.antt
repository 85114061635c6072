use Rattle.std.proofs.Common.{◌≤◌, length}
use Rattle.surw_base.specs.declared.limits.TheConstants.{THREADS}
use Rattle.pure_run.proofs.Views.{AreSeenAgain}
use Rattle.pure_run.proofs.view.look_again.Given as goal

abbrev pub invariant-loop-thread : goal.invariant-loop-thread
invariant-loop-thread l = record { few : length l.words ≤ THREADS; again : AreSeenAgain l.lock l.enabled l.words l.initial.view l.view l.thread }
