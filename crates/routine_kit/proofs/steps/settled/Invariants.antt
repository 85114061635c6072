use Rattle.std.proofs.Common.{◌≡◌}
use Rattle.routine_kit.specs.Steps.{settled}
use Rattle.routine_kit.proofs.steps.settled.Given as goal

abbrev pub invariant-loop-left : goal.invariant-loop-left
invariant-loop-left l = settled l.lines l.left l.place l.registers ≡ settled l.lines l.initial.left l.initial.place l.initial.registers

abbrev pub decreases-loop-left : goal.decreases-loop-left
decreases-loop-left l = l.left
