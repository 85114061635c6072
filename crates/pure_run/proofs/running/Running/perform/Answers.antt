use Rattle.std.proofs.Common.{◌≡◌, ◌+◌, All, length, refl, ap, sym, subst, ◌∙◌}
use Rattle.event_class.specs.Selection.{has}
use Rattle.seed_draws.proofs.Asked.{is-source}
use Rattle.test_world.specs.Monitor.{CanWatch}
use Rattle.test_world.specs.World.{after, reply}
use Rattle.walk_rules.specs.Walk.{after_done}
use Rattle.run_rules.specs.declared.entry.Entry.{Entry}
use Rattle.pure_run.specs.Core.{IsStep, setup_by, step_by}
use Rattle.pure_run.specs.Monitors.{failed_then}
use Rattle.pure_run.proofs.Grant.{replied-step}
use Rattle.pure_run.proofs.StepRunning.{CanStep, can-step, chosen-is, core-step, look-then, look-within, seen-then}
use Rattle.pure_run.proofs.running.Running.perform.Given.{Over}
use Rattle.pure_run.proofs.running.Running.perform.Goals.{After-apply-reply, After-grant-event}
use Rattle.pure_run.proofs.running.Running.perform.Goals as goal

-- what the calls on the way ask
abbrev granted-entry : (g : Over) (c : After-grant-event g) → Entry
granted-entry g c =
    step_by (setup_by g.S.Draws g.O.Draws c.args.history.now) c.args.history.now c.args.thread c.grant-event.result.0 c.grant-event.result.1

can : (g : Over) (c : After-grant-event g) → CanStep g.S.Draws g.O.Draws c.args.history.now c.args.self.now (granted-entry g c) c.requires.core c.grant-event.ensures
can g c = can-step g.S.Draws g.O.Draws c.args.history.now c.args.self.now (granted-entry g c) c.requires.core c.grant-event.ensures

-- the entry that is made
abbrev entry : (g : Over) (c : After-apply-reply g) → Entry
entry g c = record { thread = c.args.thread; event = c.grant-event.result.0; reply = c.apply-reply.result; forced = c.grant-event.result.1 }

step : (g : Over) (c : After-apply-reply g) → IsStep (setup_by g.S.Draws g.O.Draws c.args.history.now) c.args.history.now (entry g c)
step g c =
    replied-step (setup_by g.S.Draws g.O.Draws c.args.history.now) c.args.history.now c.args.thread c.apply-reply.result c.grant-event.result.0 c.grant-event.result.1
    c.grant-event.ensures
    (c.apply-reply.ensures.reply ∙ ap (λ w. reply w c.args.thread c.grant-event.result.0) c.requires.core.decided.parts.world)

pub done-requires-clause-granted : goal.done-requires-clause-granted
done-requires-clause-granted g c = (can g (goal.at.done-requires-clause-granted g c).After-grant-event).waits

pub get-requires : goal.get-requires
get-requires g c = (can g (goal.at.get-requires g c).After-grant-event).listed

pub done-requires-clause-left : goal.done-requires-clause-left
done-requires-clause-left g c counts selects =
    let at = (goal.at.done-requires-clause-left g c).After-grant-event in
    let chosen : c.is_selected-chosen.result ≡ has c.args.history.now.opening.selection c.grant-event.result.0 =
    chosen-is g.S.Draws g.O.Draws c.args.history.now c.args.self.now (granted-entry g at) c.requires.core c.grant-event.ensures
    c.get.result c.is_selected-chosen.result c.get.ensures c.is_selected-chosen.ensures in
    (can g at).left counts (sym chosen ∙ selects)

pub watch-requires-clause-watched : goal.watch-requires-clause-watched
watch-requires-clause-watched g c =
    subst (λ world. All (CanWatch world.size) c.monitors.result.now) (sym c.apply-reply.ensures.after)
    (subst (λ m. All (CanWatch (after c.args.self.now.world c.args.thread c.grant-event.result.0).size) m)
    (sym (c.monitors.ensures ∙ ap (λ o. o.monitors) c.opening.ensures))
    (can g (goal.at.watch-requires-clause-watched g c).After-grant-event).watched)

pub look_after-requires-clause-each : goal.look_after-requires-clause-each
look_after-requires-clause-each g c =
    (can g (goal.at.look_after-requires-clause-each g c).After-grant-event).each ∙ sym (ap (λ words. length words) c.words.ensures)

pub set-requires : goal.set-requires
set-requires g c =
    let core = c.args.history.now in
    let running = c.args.self.now in
    let made = granted-entry g (goal.at.set-requires g c).After-grant-event in
    look-within g.S.Draws g.O.Draws core running made c.requires.core c.grant-event.ensures c.look_after.new.view
    (look-then g.S.Draws g.O.Draws core running made c.requires.core c.grant-event.ensures c.apply-reply.new.self c.words.result.now c.look_after.new.view
    c.apply-reply.ensures.after c.words.ensures c.look_after.ensures)

pub returns-clause-step : goal.returns-clause-step
returns-clause-step g c = step g (goal.at.returns-clause-step g c).After-apply-reply

pub returns-clause-core : goal.returns-clause-core
returns-clause-core g c =
    let core = c.args.history.now in
    let running = c.args.self.now in
    let thread = c.args.thread in
    let event = c.grant-event.result.0 in
    let forced = c.grant-event.result.1 in
    let made = (goal.at.returns-clause-core g c).After-apply-reply in
    let chosen : c.is_selected-chosen.result ≡ has core.opening.selection event =
    chosen-is g.S.Draws g.O.Draws core running (entry g made) c.requires.core (step g made)
    c.get.result c.is_selected-chosen.result c.get.ensures c.is_selected-chosen.ensures in
    let monitors = c.monitors.ensures ∙ ap (λ o. o.monitors) c.opening.ensures in
    core-step g.S.Draws g.O.Draws core running (entry g made) c.requires.core (step g made)
    (is-source g.S.Draws g.met.S.Draws.below_its_bound core.opening.selected) (is-source g.O.Draws g.met.O.Draws.below_its_bound core.opening.other)
    _ c.apply-reply.ensures.after refl
    (seen-then g.S.Draws g.O.Draws core running (entry g made) c.requires.core (step g made) c.look_after.new.view c.set.new.self
    (look-then g.S.Draws g.O.Draws core running (entry g made) c.requires.core (step g made) c.apply-reply.new.self c.words.result.now c.look_after.new.view
    c.apply-reply.ensures.after c.words.ensures c.look_after.ensures) c.set.ensures)
    (c.done.ensures ∙ ap (λ is. after_done running.walk thread is forced) chosen)
    refl refl
    (c.watch.ensures
    ∙ ap (λ w. failed_then w (c.len.result + 1) running.failed.items c.monitors.result.now) c.apply-reply.ensures.after
    ∙ ap (λ n. failed_then (after running.world thread event) (n + 1) running.failed.items c.monitors.result.now) c.len.ensures
    ∙ ap (λ m. failed_then (after running.world thread event) (length core.journal + 1) running.failed.items m) monitors)
    c.wait.ensures
