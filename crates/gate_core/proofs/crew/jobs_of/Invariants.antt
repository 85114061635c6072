use Rattle.std.proofs.Common.{◌≡◌, ◌++◌, length, map, take}
use Rattle.std.specs.Prelude.{vec_len}
use Rattle.turn_table.specs.Seat.{SeatsFrom}
use Rattle.gate_core.proofs.crew.jobs_of.Given as goal

abbrev pub invariant-loop-pass : goal.invariant-loop-pass
invariant-loop-pass g l =
    (map (λ job. job.pass) l.jobs.items ≡ l.yielded)
    × (map (λ job. job.log.start) l.jobs.items ≡ take (length l.yielded) l.routines)
    × (l.yielded ++ l.pass-iterator.rest.items ≡ l.fn.passes.items)
    × SeatsFrom l.turnstile 0 l.fn.passes.items
    × (vec_len l.fn.passes ≡ length l.routines)
    × (goal.iterator-loop-pass g).can_next l.pass-iterator × (goal.iterator-loop-pass g).is_finite l.pass-iterator
