use Rattle.std.proofs.Common.{length}
use Rattle.surw_base.proofs.Items.{AreRead}
use Rattle.surw_base.proofs.list.read_list.Given as goal

abbrev pub invariant-loop-rest : goal.invariant-loop-rest
invariant-loop-rest l = AreRead l.initial.rest l.rest l.numbers.items

abbrev pub decreases-loop-rest : goal.decreases-loop-rest
decreases-loop-rest l = length l.rest
