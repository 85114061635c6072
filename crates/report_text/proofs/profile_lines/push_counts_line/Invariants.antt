use Rattle.std.proofs.Common.{◌≡◌, ◌++◌, take}
use Rattle.surw_base.specs.Lines.{items_text}
use Rattle.report_text.proofs.profile_lines.push_counts_line.Given as goal

abbrev pub invariant-loop-count : goal.invariant-loop-count
invariant-loop-count l = l.text.items ≡ l.initial.text.items ++ items_text (take l.count-index l.counts)
