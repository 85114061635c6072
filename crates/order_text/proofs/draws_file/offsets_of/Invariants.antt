use Rattle.std.proofs.Common.{◌≡◌, ◌<◌, ◌^◌, take, All}
use Rattle.order_text.proofs.draws_file.offsets_of.Given as goal

abbrev pub invariant-loop-number : goal.invariant-loop-number
invariant-loop-number l = record {
  pushed : l.offsets.items ≡ take l.number-index l.numbers;
  below : All (λ offset. offset < 2 ^ 32) (take l.number-index l.numbers);
}
