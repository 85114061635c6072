use Rattle.std.proofs.Common.{◌≡◌}
use Rattle.turn_table.specs.Seat.{RestsAgain}
use Rattle.gate_core.proofs.worker.work.Given as goal

-- the pass is at rest again, the log is of its routine, and the word is what that announces
abbrev pub invariant-loop : goal.invariant-loop
invariant-loop g l =
    RestsAgain l.fn.pass l.pass × (l.log.start ≡ l.fn.log.start) × (l.word ≡ g.R.Routine.announced l.log.now)
    × (goal.iterator-loop g).can_next l.iterator' × (goal.iterator-loop g).is_finite l.iterator'
