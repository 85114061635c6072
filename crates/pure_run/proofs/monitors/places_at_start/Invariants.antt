use Rattle.std.proofs.Common.{◌≡◌, map, take}
use Rattle.pure_run.specs.Monitors.{failed_in}
use Rattle.pure_run.proofs.monitors.places_at_start.Given as goal

abbrev pub invariant-loop-monitor : goal.invariant-loop-monitor
invariant-loop-monitor l = l.failed.items ≡ map (failed_in l.world 0) (take l.monitor-index l.monitors)
