use Rattle.std.proofs.Common.{◌<◌, arith}
use Rattle.std.proofs.lemmas.Grind.{common_steps}
use Rattle.std.proofs.lemmas.List.Elements.{All-more}
use Rattle.surw_base.specs.declared.limits.TheConstants.{THREADS}
use Rattle.order_text.proofs.draws_file.threads_of.Goals as goal

pub loop-number-preserved : goal.loop-number-preserved
loop-number-preserved c = record {
  pushed = grind (arith, common_steps);
  below = All-more (λ thread. thread < THREADS) c.args.numbers.now c.loop-number.number-index 0 (omega arith) c.loop-number.invariant.below (omega arith);
}
