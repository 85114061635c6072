use Rattle.surw_base.proofs.Digits.{AreRead}
use Rattle.surw_base.proofs.number.read_digits.Given as goal

abbrev pub invariant-loop-len : goal.invariant-loop-len
invariant-loop-len l = AreRead l.text l.value l.len
