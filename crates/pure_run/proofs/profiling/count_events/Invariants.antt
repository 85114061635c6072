use Rattle.std.proofs.Common.{◌≡◌, [], ◌∷◌, take}
use Rattle.surw_base.specs.declared.limits.TheConstants.{THREADS}
use Rattle.event_class.specs.declared.pickable.Pickable.TheVariants.{Every}
use Rattle.pure_run.specs.Profile.{counts_made}
use Rattle.pure_run.proofs.profiling.count_events.Given as goal

abbrev pub invariant-loop-entry : goal.invariant-loop-entry
invariant-loop-entry l = record {
  selected : l.selected ≡ counts_made l.selection (take l.entry-index l.journal) THREADS;
  all : l.all ≡ counts_made (Every ∷ []) (take l.entry-index l.journal) THREADS;
}
