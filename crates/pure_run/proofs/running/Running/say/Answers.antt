use Rattle.std.proofs.Common.{◌-◌, false, set, refl, ap, subst, ◌∙◌}
use Rattle.run_rules.specs.Position.{seen_word}
use Rattle.pure_run.specs.declared.running.Running.{Running}
use Rattle.pure_run.specs.Core.{CoreState, before_word, setup_by}
use Rattle.pure_run.specs.Invariant.{AreParts, IsKept}
use Rattle.pure_run.proofs.Decision.{can-decide, core-decided}
use Rattle.pure_run.proofs.WordJournal.{due-before, kept-word, word-again}
use Rattle.pure_run.proofs.WordRunning.{due-some, next-due, parts-word, view-within}
use Rattle.pure_run.proofs.running.Running.say.Given.{Over}
use Rattle.pure_run.proofs.running.Running.say.Goals.{After-set}
use Rattle.pure_run.proofs.running.Running.say.Goals as goal

pub set-requires : goal.set-requires
set-requires g c =
    let core = c.args.history.now in
    view-within g.S.Draws g.O.Draws (before_word core c.args.thread) c.args.self.now c.args.thread c.args.event.now c.requires.core
    (due-before core c.args.thread c.args.event.now c.requires.said)

pub overflow_sub-self : goal.overflow_sub-self
overflow_sub-self g c =
    let core = c.args.history.now in
    due-some g.S.Draws g.O.Draws (before_word core c.args.thread) c.args.self.now c.args.thread c.args.event.now c.requires.core
    (due-before core c.args.thread c.args.event.now c.requires.said)

-- the core after the word, and the parts that it is decided by
abbrev core : (g : Over) (c : After-set g) → CoreState g.row.S.Denot g.row.O.Denot
core g c = c.args.history.now

abbrev before : (g : Over) (c : After-set g) → CoreState g.row.S.Denot g.row.O.Denot
before g c = before_word c.args.history.now c.args.thread

abbrev running : (g : Over) (c : After-set g) → Running g.row.S.Denot g.row.O.Denot
running g c = record c.args.self.now { due = c.args.self.now.due - 1; view = c.set.new.self }

kept : (g : Over) (c : After-set g) → IsKept (setup_by g.S.Draws g.O.Draws (core g c)) (core g c)
kept g c =
    subst (λ (k : CoreState g.row.S.Denot g.row.O.Denot). IsKept (setup_by g.S.Draws g.O.Draws (core g c)) k)
    (word-again (core g c) c.args.thread c.args.event.now c.requires.said)
    (kept-word (setup_by g.S.Draws g.O.Draws (before g c)) (before g c) c.args.thread c.args.event.now c.requires.core.kept
    (due-before (core g c) c.args.thread c.args.event.now c.requires.said))

ready : (g : Over) (c : After-set g) → AreParts g.S.Draws g.O.Draws (setup_by g.S.Draws g.O.Draws (core g c)) (core g c) false (running g c)
ready g c =
    subst (λ (k : CoreState g.row.S.Denot g.row.O.Denot). AreParts g.S.Draws g.O.Draws (setup_by g.S.Draws g.O.Draws (core g c)) k false (running g c))
    (word-again (core g c) c.args.thread c.args.event.now c.requires.said)
    (parts-word g.S.Draws g.O.Draws (before g c) c.args.self.now c.args.thread c.args.event.now c.requires.core
    (due-before (core g c) c.args.thread c.args.event.now c.requires.said) (running g c) refl refl
    (c.set.ensures
    ∙ ap (λ seen. set c.args.self.now.view c.args.thread seen)
    (c.look_at-seen.ensures ∙ ap (λ items. seen_word c.args.self.now.world items c.args.event.now) (c.selection.ensures ∙ ap (λ o. o.selection) c.opening-opening.ensures)))
    refl refl refl refl)

pub decide-requires-clause-made : goal.decide-requires-clause-made
decide-requires-clause-made g c =
    let set = (goal.at.decide-requires-clause-made g c).After-set in
    can-decide g.S.Draws g.O.Draws (core g set) (running g set) (ready g set) (kept g set)

pub decide-requires-clause-due : goal.decide-requires-clause-due
decide-requires-clause-due g c =
    let core = c.args.history.now in
    next-due g.S.Draws g.O.Draws (before_word core c.args.thread) c.args.self.now c.args.thread c.args.event.now c.requires.core
    (due-before core c.args.thread c.args.event.now c.requires.said)

pub returns : goal.returns
returns g c =
    let said = (goal.at.returns g c).After-set in
    core-decided g.S.Draws g.O.Draws (core g said) (running g said) (ready g said) (kept g said) c.decide.new.self
    c.decide.ensures.next c.decide.ensures.walk c.decide.ensures.selected c.decide.ensures.other c.decide.ensures.rest c.decide.ensures.able
