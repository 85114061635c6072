use Rattle.std.proofs.Common.{◌≡◌}
use Rattle.scenario_toml.specs.Made.{made_routines}
use Rattle.scenario_toml.proofs.made.made_routines.Given as goal

abbrev pub invariant-loop-thread : goal.invariant-loop-thread
invariant-loop-thread l = l.routines.items ≡ made_routines l.number l.thread
