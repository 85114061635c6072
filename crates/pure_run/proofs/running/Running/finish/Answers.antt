use Rattle.std.proofs.Common.{All, length, min, ap, sym, subst, ◌+◌, ◌∙◌}
use Rattle.surw_base.specs.Number.{greatest}
use Rattle.test_world.specs.Monitor.{CanWatch}
use Rattle.test_world.specs.World.{new_world}
use Rattle.pure_run.specs.Run.{at_end}
use Rattle.pure_run.proofs.Finish.{outcome-is}
use Rattle.pure_run.proofs.Sizes.{size-after}
use Rattle.pure_run.proofs.running.Running.finish.Goals as goal

pub new-requires-clause-watched : goal.new-requires-clause-watched
new-requires-clause-watched g c =
    let core = c.args.history in
    subst (λ monitors. All (CanWatch c.args.self.world.size) monitors) (sym c.into_parts-journal.ensures.monitors)
    (subst (λ size. All (CanWatch size) core.opening.monitors)
    (sym (ap (λ w. w.size) c.requires.core.decided.parts.world ∙ size-after (new_world core.opening.size) core.journal)) c.requires.core.kept.valid.watched)

pub returns : goal.returns
returns g c =
    let core = c.args.history in
    let running = c.args.self in
    let parts = c.into_parts-journal.ensures in
    let then = c.new.ensures in
    outcome-is g.S.Draws g.O.Draws core running c.args.verdict c.requires.core c.requires.stopped c.new.result
    (ap (λ r. r.journal) then ∙ parts.journal) (ap (λ r. r.world) then) (ap (λ r. r.verdict) then) (ap (λ r. r.words) then ∙ parts.words)
    (ap (λ r. r.bent) then
    ∙ c.saturating_add-bent.ensures
    ∙ ap (λ n. min (n + c.bent-2.result) greatest) c.bent.ensures
    ∙ ap (λ n. min (g.S.Draws.bent_draws running.selected + n) greatest) c.bent-2.ensures)
    (ap (λ r. r.selection) then ∙ parts.selection) (ap (λ r. r.monitors) then ∙ parts.monitors)
    (ap (λ r. r.failed) then
    ∙ ap (λ xs. at_end running.world (length xs) c.args.verdict running.failed.items c.into_parts-journal.result.3.items) parts.journal
    ∙ ap (λ m. at_end running.world (length core.journal) c.args.verdict running.failed.items m) parts.monitors)
