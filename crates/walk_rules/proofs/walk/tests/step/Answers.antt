use Rattle.std.proofs.Common.{List, Option, sym, subst}
use Rattle.walk_rules.specs.declared.asked.Asked.{Asked}
use Rattle.walk_rules.specs.Walk.{AsksAble}
use Rattle.walk_rules.proofs.walk.tests.step.Goals as goal

pub pick-picked-requires-clause-asked : goal.pick-picked-requires-clause-asked
pick-picked-requires-clause-asked c =
    subst (λ (list : Option (List Asked)). AsksAble list c.steps-step.result c.args.view.now) (sym c.requires.unasked) tt
