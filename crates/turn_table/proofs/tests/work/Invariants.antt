use Rattle.std.proofs.Common.{◌≡◌}
use Rattle.turn_table.specs.Seat.{RestsAgain}
use Rattle.turn_table.proofs.tests.work.Given as goal

abbrev pub invariant-loop : goal.invariant-loop
invariant-loop g l =
    RestsAgain l.fn.seat l.seat × (l.seat.table ≡ l.table.id)
    × (goal.iterator-loop g).can_next l.iterator' × (goal.iterator-loop g).is_finite l.iterator'
