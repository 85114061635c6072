use Rattle.std.proofs.Common.{◌≡◌, ◌<◌, ◌+◌, ◌*◌, arith, get_or, subst, sym, ℕ, length}
use Rattle.std.specs.Char.{IsNotAsciiDigit}
use Rattle.surw_base.proofs.Digits.{AreRead, longest, longer-prefix, digit-prefix, one-more, past-first}
use Rattle.surw_base.proofs.number.read_digits.Goals as goal

pub returns-then-not-is_ascii_digit : goal.returns-then-not-is_ascii_digit
returns-then-not-is_ascii_digit c =
    let text = c.args.text.now in
    let len = c.loop-len.len in
    let out : IsNotAsciiDigit (get_or text len 0) = c.if-not-is_ascii_digit.ensures.cases in
    let some : 0 < len = past-first IsNotAsciiDigit text len out (λ h. grind (arith, c.requires.first)) in
    longest text _ len c.loop-len.invariant some c.loop-len.auto.len-end
    (λ n w lt within is. let digit = digit-prefix text n w len within is lt in grind arith)

pub returns-then-value-digit : goal.returns-then-value-digit
returns-then-value-digit c =
    let text = c.args.text.now in
    let len = c.loop-len.len in
    let digit = c.if-not-is_ascii_digit.ensures.cases in
    let is = c.from-digit.ensures in
    let some : 0 < len = grind (arith, c.loop-len.invariant.start) in
    longest text _ len c.loop-len.invariant some c.loop-len.auto.len-end
    (λ n w lt within number. omega (arith, longer-prefix text c.loop-len.value len n w c.loop-len.invariant within number lt, number.below))

pub loop-len-preserved : goal.loop-len-preserved
loop-len-preserved c =
    let text = c.args.text.now in
    let digit = c.if-not-is_ascii_digit.ensures.cases in
    let read : ℕ → _ = λ (d : ℕ). AreRead text (c.loop-len.value * 10 + d) (c.loop-len.len + 1) in
    subst read (sym c.from-digit.ensures)
    (one-more text c.loop-len.value c.loop-len.len c.loop-len.invariant c.loop-len-test.true digit (c.requires.first.0) (omega (arith, c.from-digit.ensures)))

pub returns : goal.returns
returns c =
    let at_end : c.loop-len.len ≡ length c.args.text.now = omega (arith, c.loop-len.auto.len-end, c.loop-len-test.false) in
    longest _ _ _ (subst (AreRead c.args.text.now c.loop-len.value) at_end c.loop-len.invariant) c.requires.some (omega arith) (λ n w lt within is. absurd (omega arith))
