use Rattle.std.proofs.Common.{◌≡◌, ◌≤◌, ◌++◌}
use Rattle.std.specs.Prelude.{vec_len, vec_capacity}
use Rattle.gate_core.proofs.gate.passes_of.Given as goal

abbrev pub invariant-loop-seat : goal.invariant-loop-seat
invariant-loop-seat g l =
    (l.passes.items ≡ l.yielded)
    × (l.yielded ++ l.seat-iterator.rest.items ≡ l.fn.seats.items)
    × (vec_len l.fn.seats ≤ vec_capacity l.passes)
    × (goal.iterator-loop-seat g).can_next l.seat-iterator × (goal.iterator-loop-seat g).is_finite l.seat-iterator
