use Rattle.std.proofs.Common.{◌≡◌, ◌++◌, take}
use Rattle.std.specs.List.{flat_map, enumerate_from}
use Rattle.report_text.specs.NextLines.{next_line}
use Rattle.report_text.proofs.next_lines.push_next_lines.Given as goal

abbrev pub invariant-loop-number : goal.invariant-loop-number
invariant-loop-number l =
    l.text.items ≡ l.initial.text.items ++ flat_map (λ e. next_line e.0 e.1) (take l.number (enumerate_from 0 l.run.words))
