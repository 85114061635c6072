use Rattle.seed_draws.specs.TapeSource.{loose_tape, strict_tape}
use Rattle.selected_order.specs.EveryOrder.{tape_script}
use Rattle.selected_order.proofs.EveryOrder.{every-order, orders-come-equally-often}
use Rattle.selected_order.proofs.laws.every_order.Goals as goal

pub returns-clause-named : goal.returns-clause-named
returns-clause-named g c =
    let plan = c.args.plan.now in
    every-order (tape_script g.R.Routine plan)
    (λ draws others. c.requires.valid (strict_tape draws) (loose_tape others))

pub returns-clause-equally : goal.returns-clause-equally
returns-clause-equally g c =
    orders-come-equally-often (tape_script g.R.Routine c.args.plan.now)
