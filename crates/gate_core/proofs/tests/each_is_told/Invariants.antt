use Rattle.std.proofs.Common.{◌≡◌, ◌++◌}
use Rattle.gate_core.specs.Gate.{AreAllPasses}
use Rattle.gate_core.proofs.tests.each_is_told.Given as goal

abbrev pub invariant-loop-pass : goal.invariant-loop-pass
invariant-loop-pass g l =
    (l.yielded ++ l.pass-iterator.rest.items ≡ l.fn.passes.items)
    × AreAllPasses l.gate l.fn.passes.items
    × (goal.iterator-loop-pass g).can_next l.pass-iterator × (goal.iterator-loop-pass g).is_finite l.pass-iterator
