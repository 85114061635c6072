use Rattle.std.proofs.Common.{refl, arith}
use Rattle.wal_log.proofs.EmptySlots.{kept-filled}
use Rattle.wal_log.proofs.log.WalLog.put.Goals as goal

pub invariant_of-self : goal.invariant_of-self
invariant_of-self c = kept-filled _ _ _ _ _ _ c.args.v c.in-Some.slot.now (omega (
  arith,
  c.if-s-from-2.true,
  c.from-in-Some.ensures,
  c.if-s-eq0.false,
)) (omega (arith, c.in-Some.ensures.variant.0 refl)) c.in-Some.ensures.value c.if-is_none.ensures c.self.invariant
