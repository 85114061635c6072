use Rattle.std.proofs.Common.{◌≡◌, ◌-◌, length, drop}
use Rattle.routine_kit.specs.Steps.{settle}
use Rattle.routine_kit.proofs.steps.settle.Given as goal

abbrev pub invariant-loop-place : goal.invariant-loop-place
invariant-loop-place l = record {
  same : settle l.place (drop l.place l.lines) 0 l.registers ≡ settle l.initial.place (drop l.initial.place l.lines) 0 l.initial.registers;
}

abbrev pub decreases-loop-place : goal.decreases-loop-place
decreases-loop-place l = length l.lines - l.place
