use Rattle.std.proofs.Common.{◌≡◌, ◌<◌, ℕ, Some, None, slice_index}
use Rattle.std.specs.Prelude.{slice_index_or}
use Rattle.std.specs.List.{slice_get}
use Rattle.gate_core.specs.Log.{EndsAt, LogState}
use Rattle.gate_core.proofs.own_logs.all_end.Given as goal

abbrev pub invariant-loop-thread : goal.invariant-loop-thread
invariant-loop-thread g l = (j : ℕ) (log : LogState _) → j < l.thread → slice_get l.logs j ≡ Some log
    → EndsAt g.R.Routine log (slice_index l.made j) (slice_index_or l.run.words j None)
