use Rattle.walk_rules.proofs.StepChanges.{IsChangedTo}
use Rattle.walk_rules.proofs.ranks.Ranks.change.Given as goal

abbrev pub invariant-loop-place : goal.invariant-loop-place
invariant-loop-place l = IsChangedTo l.step l.view l.initial.self l.self l.place
