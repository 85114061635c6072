-- The text of a run.
use Rattle.std.specs.Prelude.{ℕ, List, ◌++◌, codes, length}
use Rattle.run_rules.specs.EventsMade.{selected_order}
use Rattle.run_rules.specs.Run.{Outcome}
use Rattle.report_text.specs.CacheLines.{frames_line, pages_line}
use Rattle.report_text.specs.Counts.{selected_count, forced_count, switches}
use Rattle.surw_base.specs.Lines.{list_line, number_line}
use Rattle.report_text.specs.LogLines.{slots_line}
use Rattle.report_text.specs.MonitorLines.{monitor_lines}
use Rattle.report_text.specs.NextLines.{next_lines}
use Rattle.report_text.specs.StepLines.{steps_text}
use Rattle.report_text.specs.VerdictLine.{verdict_line}
use Rattle.report_text.specs.WorldLines.{locks_line}

-- the lines but those of the steps
unfoldable pub summary_text : Outcome → List ℕ
summary_text outcome =
    verdict_line outcome.verdict
    ++ number_line (codes "steps") (length outcome.journal)
    ++ number_line (codes "selected") (selected_count outcome.selection outcome.journal)
    ++ number_line (codes "forced") (forced_count outcome.journal)
    ++ number_line (codes "bent") outcome.bent
    ++ number_line (codes "switches") (switches outcome.journal)
    ++ list_line (codes "order") (selected_order outcome.selection outcome.journal)
    ++ next_lines outcome.words
    ++ list_line (codes "cells") outcome.world.cells
    ++ locks_line outcome.world.locks
    ++ list_line (codes "free") outcome.world.cache.free
    ++ frames_line (codes "clean") outcome.world.cache outcome.world.cache.clean
    ++ frames_line (codes "dirty") outcome.world.cache outcome.world.cache.dirty
    ++ pages_line outcome.world.cache.disk
    ++ slots_line outcome.world.log.reserved
    ++ number_line (codes "mark") outcome.world.log.mark
    ++ number_line (codes "checks") outcome.world.checks
    ++ monitor_lines outcome.verdict outcome.monitors outcome.failed

-- all lines
abbrev pub report_text : Outcome → List ℕ
report_text outcome = summary_text outcome ++ steps_text outcome.journal
