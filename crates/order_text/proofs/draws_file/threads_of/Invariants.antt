use Rattle.std.proofs.Common.{◌≡◌, ◌<◌, take, All}
use Rattle.surw_base.specs.declared.limits.TheConstants.{THREADS}
use Rattle.order_text.proofs.draws_file.threads_of.Given as goal

abbrev pub invariant-loop-number : goal.invariant-loop-number
invariant-loop-number l = record {
  pushed : l.threads.items ≡ take l.number-index l.numbers;
  below : All (λ thread. thread < THREADS) (take l.number-index l.numbers);
}
