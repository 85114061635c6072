use Rattle.std.proofs.Common.{◌≡◌, ◌++◌, take}
use Rattle.std.specs.List.{flat_map, zip}
use Rattle.report_text.specs.MonitorLines.{monitor_line}
use Rattle.report_text.proofs.monitor_lines.push_monitor_lines.Given as goal

abbrev pub invariant-loop-i : goal.invariant-loop-i
invariant-loop-i l =
    l.text.items ≡ l.initial.text.items ++ flat_map (λ e. monitor_line l.run.verdict e.0 e.1) (take l.i (zip l.run.monitors l.run.failed))
