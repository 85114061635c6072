use Rattle.std.proofs.Common.{◌≡◌, ℕ, ◌+◌, ◌≤◌, false}
use Rattle.std.specs.Prelude.{vec_len}
use Rattle.turn_table.specs.Count.{times, below}
use Rattle.turn_table.specs.Rule.{numbers_of, rounds_of}
use Rattle.turn_table.specs.Seat.{AreNumbered, given_to}
use Rattle.turn_table.proofs.table.TurnTable.gather.Given as goal

abbrev pub invariant-loop-next : goal.invariant-loop-next
invariant-loop-next g l =
    (l.main.table_id ≡ l.fn.self.id) × (l.main.me.0.number ≡ l.fn.main.me.0.number) × (l.main.me.0.turn ≡ false) × (l.main.me.0.right ≡ l.fn.main.me.0.right)
    × AreNumbered l.fn.self.id 0 l.seats.items
    × ((k : ℕ) → times k (numbers_of l.fn.main.me.0) + below k (vec_len l.fn.seats) ≤ times k (numbers_of l.main.me.0) + below k (vec_len l.seats))
    × ((k : ℕ) → times k (rounds_of l.main.me.0) + given_to k l.seats.items ≡ times k (rounds_of l.fn.main.me.0) + given_to k l.fn.seats.items)

abbrev pub decreases-loop-next : goal.decreases-loop-next
decreases-loop-next g l = vec_len l.seats
