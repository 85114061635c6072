use Rattle.std.proofs.Common.{arith, add-one, ◌+◌}
use Rattle.std.proofs.lemmas.Bool.{eqb-true, eq-eqb}
use Rattle.std.proofs.lemmas.List.{take_rest}
use Rattle.order_text.proofs.Lines.{lines-split, lines-one, lines-none}
use Rattle.order_text.proofs.first_line.first_line.Goals as goal

pub returns-in-Some : goal.returns-in-Some
returns-in-Some c =
    let text = c.args.text.now in
    let end = c.in-Some.end in
    let found = c.in-Some.ensures in
    let split = lines-split text end found.0.high (λ k less same. found.0.before k (omega arith) less (eq-eqb _ _ same)) (eqb-true _ _ found.1) in
    rw (take_rest text (end + 1), add-one) split

pub returns-in-None : goal.returns-in-None
returns-in-None c =
    let text = c.args.text.now in
    let none = c.in-None.ensures in
    rw lines-none (lines-one text c.requires (λ k less same. none k (omega arith) less (eq-eqb _ _ same)))
