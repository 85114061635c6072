-- What may be sent to another thread.
use denote.Param.Send.{IsSend, sendable, view_send}
use denote.Param.SendFields.{as_row_send, declared_send}
use denote.Builtin.{u64}
use denote.Struct.Tuple.{Tuple}
use mathlib.Core.List.{[], ◌∷◌}
use Rattle.std.proofs.Crossing.{Box-send, crosses}
use Rattle.std.specs.contracts.vec.Vec as vec
use Rattle.std.specs.contracts.alloc.Global as global
use Rattle.std.specs.contracts.snapshot.Snapshot as snap
use Rattle.std.specs.contracts.impls.GlobalAllocator.TheImpl as ga
use Rattle.event_class.specs.contracts.event.Event as event
use Rattle.atomic_table.proofs.shared.Seat.TheSendSync as table_seat
use Rattle.std.specs.contracts.option.Option as option
use Rattle.turn_table.specs.contracts.seat.TurnSeat as turn_seat
use Rattle.pure_run.proofs.CoreSends.{core_send, event_send}
use Rattle.gate_core.specs.contracts.held.Held as held
use Rattle.gate_core.specs.contracts.log.Log as log
use Rattle.gate_core.specs.contracts.pass.Pass as pass
use Rattle.gate_core.specs.contracts.worker.Worked as worked

pub pair_send : IsSend (Tuple (event.the_row ∷ u64 ∷ []))
pair_send = search (event_send, sendable, crosses) depth 30 fits 100000

pub items_send : IsSend (vec.the_row (Tuple (event.the_row ∷ u64 ∷ [])) global.the_row ga.ghosts)
items_send = search (pair_send, sendable, crosses) depth 30 fits 100000

pub snap_send : (R : _) → IsSend (snap.the_row R)
snap_send R = search (sendable, crosses) depth 30 fits 100000

inside_send : (R : _) (ghosts : _) → IsSend R → IsSend (log.TheInside.the_row R ghosts)
inside_send R ghosts send = declared_send (log.TheInside.the_type R ghosts) (search (as_row_send, items_send, snap_send, send, sendable, crosses) depth 30 fits 100000)

pub log_send : (R : _) (ghosts : _) → IsSend R → IsSend (log.the_row R ghosts)
log_send R ghosts send = view_send (log.TheInside.the_row R ghosts) _ _ _ _ (inside_send R ghosts send)

option_send : (T : _) → IsSend T → IsSend (option.the_row T)
option_send T t = search sendable depth 12

-- a seat of a table whose state may be sent
turn_seat_inside_send : (T ghosts : _) → IsSend T → IsSend (turn_seat.TheInside.the_row T ghosts)
turn_seat_inside_send T ghosts t = declared_send (turn_seat.TheInside.the_type T ghosts) (search (as_row_send, table_seat.the_send, option_send T t, sendable, crosses) depth 30 fits 100000)

turn_seat_send : (T ghosts : _) → IsSend T → IsSend (turn_seat.the_row T ghosts)
turn_seat_send T ghosts t = view_send (turn_seat.TheInside.the_row T ghosts) _ _ _ _ (turn_seat_inside_send T ghosts t)

module _ (S O s_ghosts o_ghosts : _) (s : IsSend S) (o : IsSend O) where
  held_inside_send : IsSend (held.TheInside.the_row S O s_ghosts o_ghosts)
  held_inside_send = declared_send (held.TheInside.the_type S O s_ghosts o_ghosts) (search (Box-send, core_send S O s_ghosts o_ghosts s o, sendable))

  held_send : IsSend (held.the_row S O s_ghosts o_ghosts)
  held_send = view_send (held.TheInside.the_row S O s_ghosts o_ghosts) _ _ _ _ held_inside_send

  pass_inside_send : IsSend (pass.TheInside.the_row S O s_ghosts o_ghosts)
  pass_inside_send = declared_send (pass.TheInside.the_type S O s_ghosts o_ghosts) (search (as_row_send, turn_seat_send, held_send))

  pub pass_send : IsSend (pass.the_row S O s_ghosts o_ghosts)
  pass_send = view_send (pass.TheInside.the_row S O s_ghosts o_ghosts) _ _ _ _ pass_inside_send

-- what a worker hands back, where its routine and the two sources may be sent
pub worked_send : (R S O r_ghosts s_ghosts o_ghosts : _) → IsSend R → IsSend S → IsSend O → IsSend (worked.the_row R S O r_ghosts s_ghosts o_ghosts)
worked_send R S O r_ghosts s_ghosts o_ghosts r s o =
    declared_send (worked.the_type R S O r_ghosts s_ghosts o_ghosts) (search (log_send, pass_send, r, s, o, sendable, crosses) depth 40 fits 100000)
