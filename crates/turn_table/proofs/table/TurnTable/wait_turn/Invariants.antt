use Rattle.std.proofs.Common.{◌≡◌}
use Rattle.turn_table.specs.Rule.{after_look}
use Rattle.turn_table.proofs.table.TurnTable.wait_turn.Given as goal

abbrev pub invariant-loop : goal.invariant-loop
invariant-loop g l =
    (l.seat.table ≡ l.fn.seat.table) × (l.seat.view ≡ after_look l.fn.seat.view l.seat.view.word)
    × (goal.iterator-loop g).can_next l.iterator' × (goal.iterator-loop g).is_finite l.iterator'
