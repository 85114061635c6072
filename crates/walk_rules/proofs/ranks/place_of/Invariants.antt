use Rattle.std.proofs.Common.{◌≡◌, ◌+◌, drop}
use Rattle.walk_rules.specs.Pct.{place_of}
use Rattle.walk_rules.proofs.ranks.place_of.Given as goal

abbrev pub invariant-loop-place : goal.invariant-loop-place
invariant-loop-place l = l.place + place_of (drop l.place l.order) l.thread ≡ place_of l.order l.thread
