use Rattle.std.proofs.Common.{[], ◌∷◌, ap, ◌∙◌, arith}
use Rattle.event_class.specs.declared.pickable.Pickable.TheVariants.{Every}
use Rattle.pure_run.specs.Profile.{counts_made}
use Rattle.pure_run.proofs.CountsMade.{first-counts, first-sum}
use Rattle.pure_run.proofs.profiling.counts_of.Goals as goal

pub new-requires-clause-steps : goal.new-requires-clause-steps
new-requires-clause-steps c =
    omega (
      arith,
      c.journal.ensures.most,
      first-sum c.args.selection.now c.args.run.now.journal c.journal.result.now c.threads-threads.result c.count_events.result.0
          c.journal.ensures.same c.threads-threads.ensures.most c.count_events.ensures.selected,
    )

pub new-requires-2-clause-steps : goal.new-requires-2-clause-steps
new-requires-2-clause-steps c =
    omega (
      arith,
      c.journal.ensures.most,
      first-sum (Every ∷ []) c.args.run.now.journal c.journal.result.now c.threads-threads.result c.count_events.result.1
          c.journal.ensures.same c.threads-threads.ensures.most c.count_events.ensures.all,
    )

pub returns-clause-selected : goal.returns-clause-selected
returns-clause-selected c =
    c.new.ensures
    ∙ first-counts c.args.selection.now c.args.run.now.journal c.journal.result.now c.threads-threads.result c.count_events.result.0
    c.journal.ensures.same c.threads-threads.ensures.most c.count_events.ensures.selected
    ∙ ap (counts_made c.args.selection.now c.args.run.now.journal) c.threads-threads.ensures.number

pub returns-clause-all : goal.returns-clause-all
returns-clause-all c =
    c.new-2.ensures
    ∙ first-counts (Every ∷ []) c.args.run.now.journal c.journal.result.now c.threads-threads.result c.count_events.result.1
    c.journal.ensures.same c.threads-threads.ensures.most c.count_events.ensures.all
    ∙ ap (counts_made (Every ∷ []) c.args.run.now.journal) c.threads-threads.ensures.number
