use Rattle.std.proofs.Common.{ap}
use Rattle.std.proofs.lemmas.Option.{slice_get_past}
use Rattle.run_rules.specs.Plan.{script_of}
use Rattle.run_rules.specs.Replies.{routine_says}
use Rattle.run_rules.proofs.Replays.{replays-repeat}
use Rattle.run_rules.proofs.laws.replay_repeats.Goals as goal

pub returns : goal.returns
returns g c =
    let plan = c.args.plan.now in
    replays-repeat (script_of g.R.Routine g.S.Draws g.O.Draws plan)
    (λ thread replies past. ap (λ routine. routine_says g.R.Routine routine replies) (slice_get_past plan.routines.items thread past))
