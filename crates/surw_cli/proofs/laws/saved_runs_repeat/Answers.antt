use Rattle.surw_cli.proofs.Repeats.{saved-runs-repeat}
use Rattle.surw_cli.proofs.laws.saved_runs_repeat.Goals as goal

pub returns : goal.returns
returns c = saved-runs-repeat
