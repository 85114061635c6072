use Rattle.pure_run.proofs.OneProfile.{one-profile}
use Rattle.pure_run.proofs.laws.one_profile.Goals as goal

pub returns : goal.returns
returns c = one-profile
