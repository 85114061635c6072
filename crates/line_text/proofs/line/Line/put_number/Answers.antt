use Rattle.std.proofs.Common.{ℕ, length, arith, ap, length-append}
use Rattle.std.proofs.lemmas.List.{length-drop}
use Rattle.line_text.proofs.Digits.{at_most_twenty}
use Rattle.line_text.proofs.line.Line.put_number.Goals as goal

pub write_digits-self-inside-requires : goal.write_digits-self-inside-requires
write_digits-self-inside-requires c =
    (omega (arith, at_most_twenty, ap length c.self.view_is, length-drop {A = ℕ}), omega arith)

pub returns-clause-short : goal.returns-clause-short
returns-clause-short c =
    omega (arith, at_most_twenty, ap length c.self.view_is, ap length c.write_digits-self-inside.ensures.written, length-append {A = ℕ})
