use Rattle.std.proofs.Common.{◌≡◌, ◌≤◌, length, take, sum}
use Rattle.surw_base.specs.declared.limits.TheConstants.{STEPS, THREADS}
use Rattle.order_text.proofs.counts.counts_of.Given as goal

abbrev pub invariant-loop-place : goal.invariant-loop-place
invariant-loop-place l = record {
  summed : l.sum ≡ sum (take l.place l.numbers);
  small : l.sum ≤ STEPS;
  room : length l.counts ≡ THREADS;
  copied : take l.place l.counts ≡ take l.place l.numbers;
}
