use Rattle.std.proofs.Common.{◌≡◌, take}
use Rattle.routine_kit.proofs.routine.copies.Given as goal

abbrev pub invariant-loop-routine : goal.invariant-loop-routine
invariant-loop-routine g l = l.copies.items ≡ take l.routine-index l.routines
