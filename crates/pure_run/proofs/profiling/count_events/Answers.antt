use Rattle.std.proofs.Common.{[], ◌∷◌, refl, sym, ◌∙◌, arith}
use Rattle.surw_base.specs.declared.limits.TheConstants.{THREADS}
use Rattle.event_class.specs.declared.pickable.Pickable.TheVariants.{Every}
use Rattle.run_rules.specs.EventsMade.{events_made}
use Rattle.pure_run.specs.Profile.{counts_made}
use Rattle.pure_run.proofs.CountsMade.{counts-few, counts-kept, counts-next}
use Rattle.pure_run.proofs.profiling.count_events.Goals as goal
use Rattle.pure_run.proofs.profiling.count_events.Goals.{then-has, else-has}

pub loop-entry-init : goal.loop-entry-init
unfolding counts_made events_made
loop-entry-init c = record { selected = refl; all = refl }

pub overflow_add-selected : goal.overflow_add-selected
overflow_add-selected c =
    omega (
      arith,
      counts-few c.args.selection.now c.args.journal.now c.loop-entry.entry-index c.entry-item.result THREADS c.loop-entry.selected
          c.loop-entry.invariant.selected c.loop-entry-test.true c.entry-item.is c.from-thread.result,
    )

pub overflow_add-all : goal.overflow_add-all
overflow_add-all c =
    omega (
      arith,
      counts-few (Every ∷ []) c.args.journal.now c.loop-entry.entry-index c.entry-item.result THREADS c.loop-entry.all
          c.loop-entry.invariant.all c.loop-entry-test.true c.entry-item.is c.from-thread.result,
    )

pub loop-entry-preserved : goal.loop-entry-preserved
loop-entry-preserved c =
    let journal = c.args.journal.now in
    let k = c.loop-entry.entry-index in
    let entry = c.entry-item.result in
    let thread = c.from-thread.result in
    let same = c.from-thread.ensures ∙ c.get.ensures.same in
    record {
      selected = elim c.if-has.branch [
        | then-has w ↦
            w.selected-is ∙ counts-next c.args.selection.now journal k entry THREADS c.loop-entry.selected c.loop-entry.invariant.selected
            c.loop-entry-test.true c.entry-item.is thread same (sym c.has.ensures ∙ w.if-has.true)
        | else-has w ↦
            w.selected-is ∙ counts-kept c.args.selection.now journal k entry THREADS c.loop-entry.selected c.loop-entry.invariant.selected
            c.loop-entry-test.true c.entry-item.is (sym c.has.ensures ∙ w.if-has.false)
      ];
      all = counts-next (Every ∷ []) journal k entry THREADS c.loop-entry.all c.loop-entry.invariant.all
          c.loop-entry-test.true c.entry-item.is thread same refl;
    }
