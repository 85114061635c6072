use Rattle.surw_base.specs.declared.limits.TheConstants.{THREADS}
use Rattle.std.proofs.Common.{◌≤◌, ◌∙◌, arith}
use Rattle.std.proofs.lemmas.Result.{IfOk-weaker}
use Rattle.draw_split.proofs.Lists.{padded-none}
use Rattle.draw_split.proofs.split.Split.with_room.Goals as goal

pub returns-clause-offsets : goal.returns-clause-offsets
returns-clause-offsets c =
    let few : c.loop-count.count-index ≤ THREADS = omega (arith, c.loop-count.auto.count-index-end, c.requires) in
    IfOk-weaker c.new.result _ _ (λ split is. is ∙ padded-none _ c.loop-count.count-index few c.loop-count.invariant) c.new.ensures.offsets
