use Rattle.std.proofs.Common.{◌<◌, length, slice_index, arith}
use Rattle.std.proofs.lemmas.Grind.{common_steps}
use Rattle.std.specs.Char.{IsNotAsciiDigit}
use Rattle.surw_base.proofs.Digits.{none-empty, none-other, zero-prefix}
use Rattle.surw_base.proofs.number.read_number.Goals as goal
use Rattle.surw_base.proofs.number.read_number.Goals.{then-is_empty-via-then-is_empty, then-is_empty-via-else-is_empty+then-not-is_ascii_digit}

pub returns-then-is_empty : goal.returns-then-is_empty
returns-then-is_empty c = elim c.then-is_empty.branch [
  | then-is_empty-via-then-is_empty w ↦
      let empty : length c.args.text.now < 1 = grind (arith, common_steps) in
      none-empty c.args.text.now empty
  | then-is_empty-via-else-is_empty+then-not-is_ascii_digit w ↦
      let other : IsNotAsciiDigit (slice_index c.args.text.now 0) = w.if-not-is_ascii_digit.ensures.cases in
      none-other c.args.text.now (λ digit. grind arith)
]

pub returns-then-text-eq48 : goal.returns-then-text-eq48
returns-then-text-eq48 c =
    let some : 0 < length c.args.text.now = grind (arith, common_steps) in
    zero-prefix c.args.text.now some c.if-text-eq48.true
