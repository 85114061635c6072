use Rattle.std.proofs.Common.{◌≡◌, map}
use Rattle.toml.specs.View.{members_view}
use Rattle.scenario_toml.specs.Values.{first_unknown}
use Rattle.scenario_toml.proofs.read.values.least_unknown.Given as goal

abbrev pub invariant-loop-key : goal.invariant-loop-key
invariant-loop-key l =
    (goal.iterator-loop-key).can_next l.key-iterator ×
    (goal.iterator-loop-key).is_finite l.key-iterator ×
    (first_unknown (map (λ name. name.now) l.names) (members_view l.key-iterator) ≡ first_unknown (map (λ name. name.now) l.names) (members_view l.table.entries))
