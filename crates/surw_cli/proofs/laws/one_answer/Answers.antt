use Rattle.surw_cli.proofs.OneAnswer.{one-answer}
use Rattle.surw_cli.proofs.laws.one_answer.Goals as goal

pub returns : goal.returns
returns c = one-answer
