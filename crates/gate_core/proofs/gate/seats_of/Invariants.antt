use Rattle.std.proofs.Common.{◌≡◌, ◌≤◌, ◌++◌}
use Rattle.std.specs.Prelude.{vec_len, vec_capacity}
use Rattle.gate_core.proofs.gate.seats_of.Given as goal

abbrev pub invariant-loop-pass : goal.invariant-loop-pass
invariant-loop-pass g l =
    (l.seats.items ≡ l.yielded)
    × (l.yielded ++ l.pass-iterator.rest.items ≡ l.fn.passes.items)
    × (vec_len l.fn.passes ≤ vec_capacity l.seats)
    × (goal.iterator-loop-pass g).can_next l.pass-iterator × (goal.iterator-loop-pass g).is_finite l.pass-iterator
