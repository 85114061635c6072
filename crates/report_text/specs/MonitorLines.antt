-- The lines of the monitors.
use Rattle.std.specs.Prelude.{ℕ, Bool, true, List, [], ◌∷◌, ◌++◌, Option, None, Some, codes, if◌then◌else◌}
use Rattle.std.specs.List.{flat_map, zip}
use Rattle.test_world.specs.declared.monitor.Monitor.{Monitor}
use Rattle.test_world.specs.declared.monitor.Monitor.TheVariants.{WriteAhead, LogWhole, Expect, CellEnd}
use Rattle.run_rules.specs.declared.verdict.Verdict.{Verdict}
use Rattle.run_rules.specs.MonitorFailures.{is_ended}
use Rattle.surw_base.specs.Lines.{line, list_text}

-- what a monitor watches for
abbrev pub monitor_text : Monitor → List ℕ
monitor_text WriteAhead = codes "write_ahead"
monitor_text LogWhole = codes "log_whole"
monitor_text Expect = codes "expect"
monitor_text (CellEnd cell value) = list_text (codes "cell_end") (cell ∷ value ∷ [])

-- whether a monitor is judged: one of a cell only where each thread has ended
abbrev pub is_judged : Verdict → Monitor → Bool
is_judged verdict (CellEnd cell value) = is_ended verdict
is_judged verdict monitor = true

-- whether it held, or the number of entries after which it failed
abbrev pub judged_text : Option ℕ → List ℕ
judged_text None = codes "held"
judged_text (Some place) = list_text (codes "failed after") (place ∷ [])

-- the line of a monitor
abbrev pub monitor_line : Verdict → Monitor → Option ℕ → List ℕ
monitor_line verdict monitor failed =
    line (codes "monitor " ++ monitor_text monitor ++ codes " "
    ++ (if is_judged verdict monitor then judged_text failed else codes "unjudged"))

-- the lines of the monitors in their order, each with its place
unfoldable pub monitor_lines : Verdict → List Monitor → List (Option ℕ) → List ℕ
monitor_lines verdict monitors failed = flat_map (λ e. monitor_line verdict e.0 e.1) (zip monitors failed)
