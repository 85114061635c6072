use Rattle.std.proofs.Common.{◌≡◌, ◌+◌, length}
use Rattle.surw_base.specs.declared.limits.TheConstants.{THREADS}
use Rattle.walk_rules.specs.Seen.{held_threads}
use Rattle.walk_rules.specs.ThreadSet.{members}
use Rattle.walk_rules.specs.Urw.{urw_bound}
use Rattle.walk_rules.proofs.KeptNumbers.{number_sum}
use Rattle.walk_rules.proofs.urw.bound.Given as goal

-- the numbers of the held threads that are still to come are in the sum
abbrev pub invariant-loop-passed : goal.invariant-loop-passed
invariant-loop-passed l = record {
  as_many : length (members THREADS 0 l.held.bits) + l._passed ≡ length (held_threads l.view);
  sum : l.sum ≡ urw_bound l.left l.view + number_sum l.left (members THREADS 0 l.held.bits);
}
