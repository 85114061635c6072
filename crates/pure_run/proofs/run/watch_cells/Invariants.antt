use Rattle.std.proofs.Common.{◌≡◌, ℕ, ◌<◌, ◌≤◌, length, get_or, None}
use Rattle.run_rules.specs.declared.verdict.Verdict.TheVariants.{Ended}
use Rattle.test_world.specs.declared.monitor.Monitor.TheVariants.{Expect}
use Rattle.pure_run.specs.Run.{place_at_end}
use Rattle.pure_run.proofs.run.watch_cells.Given as goal

abbrev pub invariant-loop-i : goal.invariant-loop-i
invariant-loop-i l = record {
  long : length l.failed.items ≡ length l.monitors;
  looked : (k : ℕ) → k < l.i → get_or l.failed.items k None ≡ place_at_end l.world l.steps Ended (get_or l.initial.failed.items k None) (get_or l.monitors k Expect);
  ahead : (k : ℕ) → l.i ≤ k → get_or l.failed.items k None ≡ get_or l.initial.failed.items k None;
}
