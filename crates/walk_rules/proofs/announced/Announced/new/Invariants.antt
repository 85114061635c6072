use Rattle.std.proofs.Common.{◌≡◌, replicate, length}
use Rattle.walk_rules.specs.declared.seen.Seen.TheVariants.{Over}
use Rattle.walk_rules.proofs.announced.Announced.new.Given as goal

abbrev pub invariant-loop-thread : goal.invariant-loop-thread
invariant-loop-thread l = (l.seen.items ≡ replicate l._thread Over) × (length l.seen.items ≡ l._thread)
