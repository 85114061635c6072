use Rattle.std.proofs.Common.{◌+◌, add-one, arith}
use Rattle.std.proofs.lemmas.Bool.{eqb-true, eq-eqb}
use Rattle.std.proofs.lemmas.List.{take_rest}
use Rattle.replay_text.proofs.Lines.{lines-none, lines-split, rest-none, rest-split}
use Rattle.replay_text.proofs.next_line.next_line.Goals as goal

pub returns-in-Some-clause-lines : goal.returns-in-Some-clause-lines
returns-in-Some-clause-lines c =
    let text = c.args.text.now in
    let end = c.in-Some.end in
    let found = c.in-Some.ensures in
    let split = lines-split text end found.0.high (λ k less same. found.0.before k (omega arith) less (eq-eqb _ _ same)) (eqb-true _ _ found.1) in
    rw (take_rest text (end + 1), add-one) split

pub returns-in-Some-clause-rest : goal.returns-in-Some-clause-rest
returns-in-Some-clause-rest c =
    let text = c.args.text.now in
    let end = c.in-Some.end in
    let found = c.in-Some.ensures in
    let split = rest-split text end found.0.high (λ k less same. found.0.before k (omega arith) less (eq-eqb _ _ same)) (eqb-true _ _ found.1) in
    rw (take_rest text (end + 1), add-one) split

pub returns-in-None-clause-lines : goal.returns-in-None-clause-lines
returns-in-None-clause-lines c = lines-none c.args.text.now (λ k less same. c.in-None.ensures k (omega arith) less (eq-eqb _ _ same))

pub returns-in-None-clause-rest : goal.returns-in-None-clause-rest
returns-in-None-clause-rest c =
    rest-none c.args.text.now (lines-none c.args.text.now (λ k less same. c.in-None.ensures k (omega arith) less (eq-eqb _ _ same)))
