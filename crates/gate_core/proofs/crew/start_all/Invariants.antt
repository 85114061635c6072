use Rattle.std.proofs.Common.{◌≡◌, ◌≤◌, ◌++◌, map}
use Rattle.std.specs.Prelude.{vec_len, vec_capacity}
use Rattle.gate_core.proofs.crew.start_all.Given as goal

-- the handles are of the jobs taken so far
abbrev pub invariant-loop-job : goal.invariant-loop-job
invariant-loop-job g l =
    (map (λ handle. handle.promise.pass.value) l.handles.items ≡ map (λ job. job.pass) l.yielded)
    × (map (λ handle. handle.promise.log.value.start) l.handles.items ≡ map (λ job. job.log.start) l.yielded)
    × (l.yielded ++ l.job-iterator.rest.items ≡ l.fn.jobs.items)
    × (vec_len l.fn.jobs ≤ vec_capacity l.handles)
    × (goal.iterator-loop-job g).can_next l.job-iterator × (goal.iterator-loop-job g).is_finite l.job-iterator
