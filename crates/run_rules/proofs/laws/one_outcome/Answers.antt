use Rattle.run_rules.proofs.Outcomes.{one-outcome}
use Rattle.run_rules.proofs.laws.one_outcome.Goals as goal

pub returns : goal.returns
returns c = one-outcome
