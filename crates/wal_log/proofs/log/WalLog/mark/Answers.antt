use Rattle.std.proofs.Common.{◌-◌, ◌∙◌, arith, take, drop}
use Rattle.std.specs.Prelude.{is_none}
use Rattle.std.specs.List.{count_by}
use Rattle.wal_log.proofs.EmptySlots.{kept-marked}
use Rattle.wal_log.proofs.log.WalLog.mark.Goals as goal

pub invariant_of-self : goal.invariant_of-self
invariant_of-self c = kept-marked _ _ _ c.self.inside.reserved.items c.self.inside.mark c.args.n _ (omega (arith, c.if-n-self.true)) (omega (
  arith,
  c.if-n-len.false,
  c.len.ensures,
)) (c.empty_in.ensures ∙ (λ i. count_by is_none (take (c.from-then-n-self-2.ensures i - c.from-then-n-self.ensures i) (drop
    (c.from-then-n-self.ensures i) (c.deref.ensures.value i))))) c.self.invariant
