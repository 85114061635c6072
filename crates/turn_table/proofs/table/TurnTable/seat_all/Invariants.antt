use Rattle.std.proofs.Common.{◌≡◌, ◌≤◌, [], Some}
use Rattle.std.specs.Prelude.{vec_len, vec_capacity}
use Rattle.turn_table.specs.Rule.{first_view}
use Rattle.turn_table.specs.Seat.{AreNumbered, AreFresh}
use Rattle.turn_table.proofs.table.TurnTable.seat_all.Given as goal

-- the seats made so far are numbered, and the last one has the right to number
abbrev pub invariant-loop-number : goal.invariant-loop-number
invariant-loop-number g l =
    AreNumbered l.fn.self.id 0 l.list.items × AreFresh l.list.items × (vec_len l.list ≡ l.number) × (l.fn.self.seats ≤ vec_capacity l.list)
    × (l.last.table_id ≡ l.fn.self.id) × (l.last.me.1 ≡ []) × (l.last.me.0 ≡ record first_view { right = Some l.number })
