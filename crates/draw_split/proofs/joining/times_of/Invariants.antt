use Rattle.surw_base.specs.declared.limits.TheConstants.{THREADS}
use Rattle.std.proofs.Common.{◌≡◌, ℕ, take, length, slice_index}
use Rattle.draw_split.specs.JoinFault.{times}
use Rattle.draw_split.proofs.joining.times_of.Given as goal

abbrev pub invariant-loop-thread : goal.invariant-loop-thread
invariant-loop-thread l =
    (length l.times ≡ THREADS)
    × ((thread : ℕ) → slice_index l.times thread ≡ times (take l.thread-index l.order) thread)
