use Rattle.std.proofs.Common.{◌≡◌, ◌++◌, take}
use Rattle.run_rules.specs.EventsMade.{selected_order}
use Rattle.surw_base.specs.Lines.{items_text}
use Rattle.report_text.proofs.counts.push_order_line.Given as goal

abbrev pub invariant-loop-k : goal.invariant-loop-k
invariant-loop-k l = l.text.items ≡ l.initial.text.items ++ items_text (selected_order l.run.selection (take l.k l.run.journal))
