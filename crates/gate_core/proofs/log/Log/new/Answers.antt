use Rattle.std.proofs.Common.{sym, ◌∙◌, arith}
use Rattle.gate_core.proofs.Logs.{follows-none}
use Rattle.gate_core.proofs.log.Log.new.Goals as goal

pub invariant_of-result : goal.invariant_of-result
invariant_of-result g c =
    rw (c.reserve.ensures.items ∙ c.new-items.ensures.items) (record {
      follows = follows-none _ _ _ (c.of-start.ensures ∙ sym c.in_ok-routine.ensures);
      within = omega arith;
      reserved = omega (arith, c.in_ok-reserve.ensures.ok, c.new-items.ensures.len);
      small = omega (arith, c.ranges.room.fits);
    })
