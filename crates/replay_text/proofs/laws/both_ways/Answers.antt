use Rattle.replay_text.proofs.Runs.{run-read, text-reads}
use Rattle.replay_text.proofs.laws.both_ways.Goals as goal

pub returns-clause-one : goal.returns-clause-one
returns-clause-one c = λ saved text is. (λ reads. (run-read saved text reads).1, λ same. text-reads saved text is same)

pub returns-clause-within : goal.returns-clause-within
returns-clause-within c = λ saved text reads. (run-read saved text reads).0
