use Rattle.std.proofs.Common.{◌≡◌, Some, ap, sym, subst, ◌∙◌}
use Rattle.std.specs.List.{slice_get}
use Rattle.pure_run.specs.declared.word.Word.TheVariants.{Due, Said}
use Rattle.pure_run.specs.Core.{CoreState, before_word}
use Rattle.pure_run.specs.Invariant.{IsCore}
use Rattle.pure_run.proofs.WordJournal.{due-again, said-there}
use Rattle.pure_run.proofs.core_state.Core.say.Goals as goal

pub say-requires-2-clause-core : goal.say-requires-2-clause-core
say-requires-2-clause-core g c =
    let due = subst (λ (k : CoreState g.row.S.Denot g.row.O.Denot). slice_get k.words c.args.thread ≡ Some Due) (sym c.self.view_is) c.requires in
    subst (λ (k : CoreState g.row.S.Denot g.row.O.Denot). IsCore g.S.Draws g.O.Draws k c.self.inside.running)
    (sym (ap (λ (k : CoreState g.row.S.Denot g.row.O.Denot). before_word k c.args.thread) c.say.ensures
    ∙ due-again c.self.inside.history c.args.thread c.args.event due))
    c.self.invariant

pub say-requires-2-clause-said : goal.say-requires-2-clause-said
say-requires-2-clause-said g c =
    let due = subst (λ (k : CoreState g.row.S.Denot g.row.O.Denot). slice_get k.words c.args.thread ≡ Some Due) (sym c.self.view_is) c.requires in
    subst (λ (k : CoreState g.row.S.Denot g.row.O.Denot). slice_get k.words c.args.thread ≡ Some (Said c.args.event)) (sym c.say.ensures)
    (said-there c.self.inside.history c.args.thread c.args.event due)
