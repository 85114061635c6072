use Rattle.std.proofs.Common.{Some, length, ap, ◌∙◌}
use Rattle.std.proofs.lemmas.Bool.{eq-eqb}
use Rattle.std.specs.Bool.{then_some}
use Rattle.surw_base.proofs.WholeNumbers.{full-prefix, same-whole}
use Rattle.surw_base.proofs.number.read_whole_number.Goals as goal

pub returns-clause-only : goal.returns-clause-only
returns-clause-only c = λ n is.
    let text = c.args.text.now in
    let longest = c.in_ok-number.ensures in
    let full = eq-eqb c.in_ok-number.len (length text) (full-prefix text c.in_ok-number.number c.in_ok-number.len n longest is) in
    c.then_some.ensures ∙ (λ i. then_some (full i) c.in_ok-number.number) ∙ ap Some (same-whole text c.in_ok-number.number c.in_ok-number.len n longest is)
