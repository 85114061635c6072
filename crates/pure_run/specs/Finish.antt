-- The run that a core ends with.
use Rattle.std.specs.Prelude.{map}
use Rattle.test_world.specs.World.{new_world}
use Rattle.run_rules.specs.declared.verdict.Verdict.{Verdict}
use Rattle.run_rules.specs.MonitorFailures.{failed_at}
use Rattle.run_rules.specs.Position.{Position, world_at}
use Rattle.run_rules.specs.Run.{Outcome, bent_at}
use Rattle.run_rules.specs.Setup.{Setup}

-- the run that stops at a position with this verdict
abbrev pub outcome_at : Setup → Position → Verdict → Outcome
outcome_at setup x verdict = record {
  journal = x.journal;
  world = world_at setup x;
  verdict = verdict;
  words = x.words;
  bent = bent_at setup x;
  selection = setup.selection;
  monitors = setup.monitors;
  failed = map (failed_at (new_world setup.size) x.journal verdict) setup.monitors;
}
