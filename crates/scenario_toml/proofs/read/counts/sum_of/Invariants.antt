use Rattle.std.proofs.Common.{◌≡◌, ◌≤◌, ◌*◌, take, sum}
use Rattle.scenario_toml.proofs.read.counts.sum_of.Given as goal

abbrev pub invariant-loop-count : goal.invariant-loop-count
invariant-loop-count l = record {
  summed : l.sum ≡ sum (take l.count-index l.counts);
  small : l.sum ≤ l.count-index * 4294967295;
}
