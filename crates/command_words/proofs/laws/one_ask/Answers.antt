use Rattle.command_words.proofs.Asks.{one-ask}
use Rattle.command_words.proofs.laws.one_ask.Goals as goal

pub returns : goal.returns
returns c = one-ask
