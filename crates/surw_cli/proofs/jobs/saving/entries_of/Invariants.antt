use Rattle.std.proofs.Common.{◌≡◌, take}
use Rattle.run_rules.specs.Replay.{entries_asked}
use Rattle.surw_cli.proofs.jobs.saving.entries_of.Given as goal

abbrev pub invariant-loop-entry : goal.invariant-loop-entry
invariant-loop-entry l = l.asked.items ≡ entries_asked (take l.entry-index l.journal)
