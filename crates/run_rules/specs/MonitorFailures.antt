-- Where a monitor first fails.
use Rattle.std.specs.Prelude.{ℕ, ◌+◌, Bool, true, false, ◌&&◌, List, length, take, Option, None, Some, if◌then◌else◌}
use Rattle.std.specs.List.{find, range_with_len}
use Rattle.test_world.specs.declared.monitor.Monitor.{Monitor}
use Rattle.test_world.specs.declared.monitor.Monitor.TheVariants.{CellEnd}
use Rattle.test_world.specs.Monitor.{is_failing}
use Rattle.test_world.specs.World.{WorldState}
use Rattle.run_rules.specs.declared.entry.Entry.{Entry}
use Rattle.run_rules.specs.declared.verdict.Verdict.{Verdict}
use Rattle.run_rules.specs.declared.verdict.Verdict.TheVariants.{Ended}
use Rattle.run_rules.specs.Journal.{world_after}

-- the least number of entries after which the monitor fails
unfoldable pub first_failing : WorldState → List Entry → Monitor → Option ℕ
first_failing world journal monitor =
    find (λ k. is_failing (world_after world (take k journal)) monitor) (range_with_len 0 (length journal + 1))

abbrev pub is_ended : Verdict → Bool
is_ended Ended = true
is_ended _ = false

-- where a monitor fails in a run: one of a cell at the end, and only where each thread has ended; any other at the
-- least number of entries after which it fails
abbrev pub failed_at : WorldState → List Entry → Verdict → Monitor → Option ℕ
failed_at world journal verdict (CellEnd cell value) =
    if is_ended verdict && is_failing (world_after world journal) (CellEnd cell value) then Some (length journal) else None
failed_at world journal verdict monitor = first_failing world journal monitor
