use Rattle.draw_split.proofs.Bijection.{each-listed, no-other-listed, in-lexical-order, equally-many}
use Rattle.draw_split.proofs.laws.equally_many.Goals as goal

pub returns-clause-once : goal.returns-clause-once
returns-clause-once c = each-listed

pub returns-clause-nothing_else : goal.returns-clause-nothing_else
returns-clause-nothing_else c = no-other-listed

pub returns-clause-lexical : goal.returns-clause-lexical
returns-clause-lexical c = in-lexical-order

pub returns-clause-equally : goal.returns-clause-equally
returns-clause-equally c = equally-many
