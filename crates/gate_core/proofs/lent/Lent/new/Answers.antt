use Rattle.std.proofs.Common.{sym, ◌∙◌}
use Rattle.std.proofs.lemmas.Bool.{false≢true}
use Rattle.gate_core.proofs.lent.Lent.new.Goals as goal

pub invariant_of-result : goal.invariant_of-result
invariant_of-result g c = record {
  seated = c.requires.table;
  own = c.thread-thread.ensures;
  holds = c.requires.holds;
  last = c.requires.last;
  before = λ _. record { granted = c.requires.granted ∙ c.thread-thread.ensures; number = sym c.requires.round };
  after = λ made. absurd (false≢true made);
}
