use Rattle.std.proofs.Common.{◌≡◌, ℕ, ◌<◌, ◌≤◌, length, get_or, None}
use Rattle.std.specs.Option.{option_or}
use Rattle.test_world.specs.declared.monitor.Monitor.TheVariants.{Expect}
use Rattle.pure_run.specs.Monitors.{failed_in}
use Rattle.pure_run.proofs.monitors.watch.Given as goal

abbrev pub invariant-loop-i : goal.invariant-loop-i
invariant-loop-i l = record {
  long : length l.failed.items ≡ length l.monitors;
  looked : (k : ℕ) → k < l.i → get_or l.failed.items k None ≡ option_or (get_or l.initial.failed.items k None) (failed_in l.world l.step (get_or l.monitors k Expect));
  ahead : (k : ℕ) → l.i ≤ k → get_or l.failed.items k None ≡ get_or l.initial.failed.items k None;
}
