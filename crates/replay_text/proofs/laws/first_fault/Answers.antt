use Rattle.replay_text.proofs.Runs.{fault-found, fault-read}
use Rattle.replay_text.proofs.laws.first_fault.Goals as goal

pub returns : goal.returns
returns c = λ fault text. (λ reads. fault-read fault text reads, λ is. fault-found fault text is)
