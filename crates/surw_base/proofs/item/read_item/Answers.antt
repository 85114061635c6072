use Rattle.std.proofs.Common.{ap, ◌∙◌, drop}
use Rattle.surw_base.proofs.Prefixes.{number-again, number-some}
use Rattle.surw_base.proofs.item.read_item.Goals as goal

pub returns-in-Some-read_number-clause-only : goal.returns-in-Some-read_number-clause-only
returns-in-Some-read_number-clause-only c = λ number rest is other.
    let digits = c.in-Some.ensures.cases.1 ∙ ap (drop 1) is.spelled in
    let again = number-again c.in-Some.digits.now rest number _ _ digits is.below other c.in-Some-read_number.ensures in
    (again.0, c.split_at.ensures.back ∙ again.1)

pub returns-in-None-read_number-clause-only : goal.returns-in-None-read_number-clause-only
returns-in-None-read_number-clause-only c = λ number rest is other.
    let digits = c.in-Some.ensures.cases.1 ∙ ap (drop 1) is.spelled in
    number-some c.in-Some.digits.now rest number digits is.below other c.in-None-read_number.ensures
