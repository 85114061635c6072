use Rattle.std.proofs.Common.{◌≡◌, ◌≤◌, ℕ, length, slice_index, take, Some}
use Rattle.std.specs.List.{slice_get}
use Rattle.surw_base.specs.declared.limits.TheConstants.{THREADS}
use Rattle.gate_core.specs.Log.{LogState, made_by}
use Rattle.gate_core.proofs.own_logs.items_made.Given as goal

abbrev pub invariant-loop-entry : goal.invariant-loop-entry
invariant-loop-entry g l = record {
  threads : length l.made ≡ THREADS;
  few : (thread : ℕ) → slice_index l.made thread ≤ l.entry-index;
  items : (thread : ℕ) (log : LogState _) → slice_get l.logs thread ≡ Some log
      → take (slice_index l.made thread) log.items ≡ made_by thread (take l.entry-index l.journal);
}
