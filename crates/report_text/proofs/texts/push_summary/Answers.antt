use Rattle.std.proofs.Common.{◌++◌, ap, ◌∙◌}
use Rattle.std.proofs.lemmas.Result.{on_ok_weaker}
use Rattle.run_rules.specs.declared.verdict.Verdict.{Verdict}
use Rattle.report_text.specs.Report.{summary_text}
use Rattle.report_text.specs.VerdictLine.{verdict_line}
use Rattle.report_text.proofs.TextPrefixes.{onto}
use Rattle.report_text.proofs.texts.push_summary.Goals as goal

pub returns : goal.returns
unfolding summary_text
returns c =
    let verdict = c.in_ok-push_verdict_line.ensures ∙ ap (λ (v : Verdict). c.args.text.now.items ++ verdict_line v) c.verdict.ensures in
    let counts = c.in_ok-push_counts.ensures ∙ onto _ _ _ _ (onto _ _ _ _ (onto _ _ _ _ (onto _ _ _ _ (onto _ _ _ _ verdict)))) in
    let order = c.in_ok-push_order_line.ensures ∙ onto _ _ _ _ counts in
    let next = c.in_ok-push_next_lines.ensures ∙ onto _ _ _ _ order in
    let world = (rw c.world.ensures at c.in_ok-push_world_lines.ensures)
    ∙ onto _ _ _ _ (onto _ _ _ _ (onto _ _ _ _ (onto _ _ _ _ (onto _ _ _ _ (onto _ _ _ _ (onto _ _ _ _ (onto _ _ _ _ (onto _ _ _ _ next)))))))) in
    on_ok_weaker c.push_monitor_lines.result (λ last. last ∙ onto _ _ _ _ world) c.push_monitor_lines.ensures
