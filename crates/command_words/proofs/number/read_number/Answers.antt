use Rattle.std.proofs.Common.{refl, sym, ◌∙◌, arith}
use Rattle.command_words.proofs.Numbers.{digits-by-place, place-by-digits, number-none, parsed}
use Rattle.command_words.proofs.number.read_number.Goals as goal
use Rattle.command_words.proofs.number.read_number.Goals.{then-text-gt-DIGITS-via-then-text-gt-DIGITS, then-text-gt-DIGITS-via-else-text-gt-DIGITS+then-not-are_digits}

pub returns-then-text-gt-DIGITS : goal.returns-then-text-gt-DIGITS
returns-then-text-gt-DIGITS c =
    let text = c.args.text.now in
    elim c.then-text-gt-DIGITS.branch [
      | then-text-gt-DIGITS-via-then-text-gt-DIGITS w ↦ sym (number-none text (λ is. omega (arith, is.short, w.if-text-gt-DIGITS.true)))
      | then-text-gt-DIGITS-via-else-text-gt-DIGITS+then-not-are_digits w ↦
          sym (number-none text (λ is. let all = w.if-not-are_digits.ensures.1 (place-by-digits text is.digits) in cc all))
    ]

pub returns : goal.returns
returns c =
    let text = c.args.text.now in
    c.ok.ensures.value
    ∙ parsed text c.parse.result (digits-by-place text (c.if-not-are_digits.ensures.0 refl)) (omega (arith, c.if-text-gt-DIGITS.false)) c.parse.ensures.value.0
