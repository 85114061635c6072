use Rattle.std.proofs.Common.{◌<◌, ◌^◌, arith}
use Rattle.std.proofs.lemmas.Grind.{common_steps}
use Rattle.std.proofs.lemmas.List.Elements.{All-more}
use Rattle.order_text.proofs.draws_file.offsets_of.Goals as goal

pub loop-number-preserved : goal.loop-number-preserved
loop-number-preserved c = record {
  pushed = grind (arith, common_steps);
  below = All-more (λ offset. offset < 2 ^ 32) c.args.numbers.now c.loop-number.number-index 0 (omega arith) c.loop-number.invariant.below (omega arith);
}
