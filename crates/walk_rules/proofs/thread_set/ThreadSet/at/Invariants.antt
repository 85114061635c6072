use Rattle.std.proofs.Common.{◌≡◌, drop}
use Rattle.surw_base.specs.declared.limits.TheConstants.{THREADS}
use Rattle.walk_rules.specs.ThreadSet.{members}
use Rattle.walk_rules.proofs.thread_set.ThreadSet.at.Given as goal

-- without the members that were passed
abbrev pub invariant-loop-passed : goal.invariant-loop-passed
invariant-loop-passed l = members THREADS 0 l.rest ≡ drop l._passed (members THREADS 0 l.self.bits)
