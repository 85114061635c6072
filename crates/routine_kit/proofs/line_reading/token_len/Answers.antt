use Rattle.std.proofs.Common.{◌==◌, sym, arith}
use Rattle.std.proofs.lemmas.Bool.Decides.{Decides-eqb}
use Rattle.std.proofs.lemmas.List.Sums.{position_or_len_is}
use Rattle.routine_kit.proofs.line_reading.token_len.Goals as goal

pub returns-else-text-len-ne32-clause-place : goal.returns-else-text-len-ne32-clause-place
returns-else-text-len-ne32-clause-place c =
    sym (position_or_len_is (λ b. b == 32) c.args.text.now c.loop-len.len 0 c.loop-len.invariant.within c.loop-len.invariant.before
    (λ lt. (Decides-eqb _ _).1 c.if-text-len-ne32.false))

pub returns-after-loop-len-clause-place : goal.returns-after-loop-len-clause-place
returns-after-loop-len-clause-place c =
    sym (position_or_len_is (λ b. b == 32) c.args.text.now c.loop-len.len 0 c.loop-len.invariant.within c.loop-len.invariant.before
    (λ lt. absurd (omega (arith, lt, c.loop-len-test.false))))
