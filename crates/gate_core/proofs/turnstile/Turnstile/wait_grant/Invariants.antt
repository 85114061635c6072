use Rattle.std.proofs.Common.{◌≡◌, false}
use Rattle.turn_table.specs.Rule.{after_look}
use Rattle.gate_core.proofs.turnstile.Turnstile.wait_grant.Given as goal

-- the seat is as it was, but for the turn word that it loaded last
abbrev pub invariant-loop : goal.invariant-loop
invariant-loop g l =
    (l.seat.table ≡ l.fn.who.table) × (l.seat.view.turn ≡ false) × (l.seat.view ≡ after_look l.fn.who.view l.seat.view.word)
    × (goal.iterator-loop g).can_next l.iterator' × (goal.iterator-loop g).is_finite l.iterator'
