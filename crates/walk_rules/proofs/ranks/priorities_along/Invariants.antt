use Rattle.std.proofs.Common.{◌≡◌, ◌+◌, ◌-◌, length, map}
use Rattle.std.specs.List.{range_with_len}
use Rattle.walk_rules.specs.Pct.{place_of}
use Rattle.walk_rules.proofs.ranks.priorities_along.Given as goal

abbrev pub invariant-loop-thread : goal.invariant-loop-thread
invariant-loop-thread l = (l.priorities.items ≡ map (λ thread. l.depth - 1 + length l.order - place_of l.order thread) (range_with_len 0 l.thread))
    × (length l.priorities.items ≡ l.thread)
