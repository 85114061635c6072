use Rattle.std.proofs.Common.{◌≡◌, ◌≤◌, ◌++◌, length, map}
use Rattle.std.specs.Prelude.{vec_len, vec_capacity}
use Rattle.gate_core.specs.Gate.{AllRestAgain}
use Rattle.gate_core.proofs.crew.join_all.Given as goal

abbrev pub invariant-loop-handle : goal.invariant-loop-handle
invariant-loop-handle g l =
    AllRestAgain (map (λ handle. handle.promise.pass.value) l.yielded) l.passes.items
    × (map (λ log. log.start) l.logs.items ≡ map (λ handle. handle.promise.log.value.start) l.yielded)
    × (l.yielded ++ l.handle-iterator.rest.items ≡ l.fn.handles.items)
    × (vec_len l.passes ≡ length l.yielded)
    × (vec_len l.fn.handles ≤ vec_capacity l.passes)
    × (vec_len l.fn.handles ≤ vec_capacity l.logs)
    × (goal.iterator-loop-handle g).can_next l.handle-iterator × (goal.iterator-loop-handle g).is_finite l.handle-iterator
