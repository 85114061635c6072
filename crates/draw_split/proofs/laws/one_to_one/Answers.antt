use Rattle.draw_split.proofs.Bijection.{each-named, one-names, orders-exchange}
use Rattle.draw_split.proofs.laws.one_to_one.Goals as goal

pub returns-clause-named : goal.returns-clause-named
returns-clause-named c = each-named

pub returns-clause-one : goal.returns-clause-one
returns-clause-one c = one-names

pub returns-clause-exchanged : goal.returns-clause-exchanged
returns-clause-exchanged c = orders-exchange
