use Rattle.std.proofs.Common.{◌≡◌, ◌++◌, take}
use Rattle.std.specs.List.{flat_map, enumerate_from}
use Rattle.report_text.specs.StepLines.{step_line}
use Rattle.report_text.proofs.steps.push_step_lines.Given as goal

abbrev pub invariant-loop-k : goal.invariant-loop-k
invariant-loop-k l =
    l.text.items ≡ l.initial.text.items ++ flat_map (λ e. step_line e.0 e.1) (take l.k (enumerate_from 0 l.journal))
