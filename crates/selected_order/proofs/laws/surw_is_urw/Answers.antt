use Rattle.seed_draws.specs.Answers.{source_of}
use Rattle.seed_draws.specs.TapeLaws.{loose_below, strict_below}
use Rattle.seed_draws.specs.TapeSource.{loose_draws, strict_draws}
use Rattle.seed_draws.proofs.Asked.{is-source}
use Rattle.seed_draws.proofs.Tapes.{loose-never}
use Rattle.selected_order.specs.EveryOrder.{tape_script}
use Rattle.selected_order.proofs.SurwIsUrw.{surw-is-urw}
use Rattle.selected_order.proofs.laws.surw_is_urw.Goals as goal

pub returns : goal.returns
returns g c =
    let plan = c.args.plan.now in
    let selected = source_of strict_draws plan.selected in
    let other = source_of loose_draws plan.other in
    surw-is-urw (tape_script g.R.Routine plan) (c.requires.valid selected other).counted
    (is-source strict_draws strict_below plan.selected) (is-source loose_draws loose_below plan.other) (loose-never plan.other)
