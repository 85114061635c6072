use Rattle.std.proofs.Common.{◌≤◌, ℕ, List, ◌++◌, length, take, Option, ap, sym, ◌∙◌, arith}
use Rattle.std.specs.List.{flat_map, zip}
use Rattle.run_rules.specs.declared.verdict.Verdict.{Verdict}
use Rattle.test_world.specs.declared.monitor.Monitor.{Monitor}
use Rattle.report_text.specs.MonitorLines.{monitor_line, monitor_lines}
use Rattle.report_text.proofs.TextPrefixes.{added, paired, paired-all, text-next}
use Rattle.report_text.proofs.monitor_lines.push_monitor_lines.Goals as goal

pub loop-i-preserved : goal.loop-i-preserved
loop-i-preserved c =
    let run = c.args.run.now in
    let i = c.loop-i.i in
    let monitor = c.monitor.result in
    let failed = c.failed.result in
    let pairs = zip run.monitors run.failed in
    let line_of : Monitor × Option ℕ → List ℕ = λ e. monitor_line run.verdict e.0 e.1 in
    let next = text-next line_of pairs i (monitor, failed) (paired run.monitors run.failed i monitor failed c.monitor.ensures c.failed.ensures)
    ∙ ap (λ (v : Verdict). flat_map line_of (take i pairs) ++ monitor_line v monitor failed) (sym c.verdict-verdict.ensures) in
    added _ _ _ _ _ _ c.loop-i.invariant c.in_ok-push_monitor_line.ensures next

pub returns : goal.returns
unfolding monitor_lines
returns c =
    let run = c.args.run.now in
    let past : length run.monitors ≤ c.loop-i.i = omega (arith, c.monitors-i-end.ensures.number) in
    let line_of : Monitor × Option ℕ → List ℕ = λ e. monitor_line run.verdict e.0 e.1 in
    c.loop-i.invariant ∙ ap (λ (l : List (Monitor × Option ℕ)). c.args.text.now.items ++ flat_map line_of l) (paired-all run.monitors run.failed c.loop-i.i past)
