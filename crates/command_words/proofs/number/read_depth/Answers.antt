use Rattle.std.proofs.Common.{sym, ◌∙◌, arith}
use Rattle.command_words.proofs.Numbers.{depth-none, depth-no-number, depth-some}
use Rattle.command_words.proofs.number.read_depth.Goals as goal
use Rattle.command_words.proofs.number.read_depth.Goals.{then-number-lt-LEAST-via-then-number-lt-LEAST, then-number-lt-LEAST-via-else-number-lt-LEAST+then-number-from}

pub returns-in_err-number : goal.returns-in_err-number
returns-in_err-number c = c.from_residual.ensures ∙ depth-no-number c.args.text.now (sym c.in_err-number.ensures)

pub returns-then-number-lt-LEAST : goal.returns-then-number-lt-LEAST
returns-then-number-lt-LEAST c =
    let text = c.args.text.now in
    let number = c.in_ok-number.number in
    let is = sym c.in_ok-number.ensures in
    elim c.then-number-lt-LEAST.branch [
      | then-number-lt-LEAST-via-then-number-lt-LEAST w ↦ depth-none text number is (λ least most. omega (arith, w.if-number-lt-LEAST.true, least))
      | then-number-lt-LEAST-via-else-number-lt-LEAST+then-number-from w ↦ depth-none text number is (λ least most. omega (arith, w.if-number-from.true, w.from.ensures, most))
    ]

pub returns : goal.returns
returns c = depth-some c.args.text.now c.in_ok-number.number (sym c.in_ok-number.ensures) (omega (arith, c.if-number-lt-LEAST.false)) (omega (arith, c.if-number-from.false, c.from.ensures))
