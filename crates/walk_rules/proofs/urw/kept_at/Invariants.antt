use Rattle.std.proofs.Common.{◌≡◌, ◌+◌, sum, take}
use Rattle.walk_rules.specs.Seen.{kept_to_able}
use Rattle.walk_rules.proofs.urw.kept_at.Given as goal

-- the place, without what is kept of the threads before
abbrev pub invariant-loop-thread : goal.invariant-loop-thread
invariant-loop-thread l = l.rest + sum (take l.thread (kept_to_able l.left l.view)) ≡ l.place
