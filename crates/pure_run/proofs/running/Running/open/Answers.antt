use Rattle.std.proofs.Common.{All, false, map, replicate, ap, sym, subst, ◌∙◌, arith}
use Rattle.seed_draws.specs.Answers.{source_of}
use Rattle.test_world.specs.Monitor.{CanWatch}
use Rattle.test_world.specs.Size.{IsWithinLimits}
use Rattle.test_world.specs.World.{new_world}
use Rattle.walk_rules.specs.declared.seen.Seen.TheVariants as seen
use Rattle.run_rules.specs.Setup.{IsValid}
use Rattle.pure_run.specs.declared.running.Running.{Running}
use Rattle.pure_run.specs.Core.{CoreState, setup_by}
use Rattle.pure_run.specs.Invariant.{AreParts, IsKept}
use Rattle.pure_run.specs.Monitors.{failed_in}
use Rattle.pure_run.proofs.Decision.{can-decide, core-decided}
use Rattle.pure_run.proofs.NewCore.{kept-new, parts-new}
use Rattle.pure_run.proofs.running.Running.open.Given.{Over}
use Rattle.pure_run.proofs.running.Running.open.Goals.{After-due, Start}
use Rattle.pure_run.proofs.running.Running.open.Goals as goal

abbrev core : (g : Over) (c : Start g) → CoreState g.row.S.Denot g.row.O.Denot
core g c = c.args.history.now

valid : (g : Over) (c : Start g) → IsValid (setup_by g.S.Draws g.O.Draws (core g c))
valid g c = c.requires.valid (source_of g.S.Draws c.args.history.now.opening.selected) (source_of g.O.Draws c.args.history.now.opening.other)

pub new-requires : goal.new-requires
new-requires g c = record {
  limits = subst (λ size. IsWithinLimits size) (sym (c.size.ensures ∙ ap (λ o. o.size) c.opening-opening.ensures)) (valid g (goal.at.new-requires g c).Start).limits;
}

pub places_at_start-requires : goal.places_at_start-requires
places_at_start-requires g c =
    subst (λ size. All (CanWatch size) c.monitors.result.now) (sym (ap (λ w. w.size) c.in_ok-world.ensures ∙ c.size.ensures ∙ ap (λ o. o.size) c.opening-opening.ensures))
    (subst (λ m. All (CanWatch c.args.history.now.opening.size) m) (sym (c.monitors.ensures ∙ ap (λ o. o.monitors) c.opening-opening.ensures)) (valid g (goal.at.places_at_start-requires g c).Start).watched)

pub new-view-requires : goal.new-view-requires
new-view-requires g c =
    let most = (valid g (goal.at.new-view-requires g c).Start).threads in
    omega (arith, most, c.threads-threads.ensures, ap (λ o. o.threads) c.opening-opening.ensures)

-- the parts that are decided by
abbrev running : (g : Over) (c : After-due g) → Running g.row.S.Denot g.row.O.Denot
running g c = record {
  world = c.in_ok-world.world;
  due = c.threads-threads.result;
  view = c.new-view.result;
  walk = c.in_ok-walk.walk;
  selected = c.in_ok-selected.selected;
  other = c.in_ok-other.other;
  failed = c.in_ok-failed.failed;
  next = c.due.result;
}

kept : (g : Over) (c : Start g) → IsKept (setup_by g.S.Draws g.O.Draws (core g c)) (core g c)
kept g c =
    subst (λ (k : CoreState g.row.S.Denot g.row.O.Denot). IsKept (setup_by g.S.Draws g.O.Draws (core g c)) k) (sym c.requires.new)
    (kept-new g.S.Draws g.O.Draws c.args.history.now.opening (valid g c))

ready : (g : Over) (c : After-due g) → AreParts g.S.Draws g.O.Draws (setup_by g.S.Draws g.O.Draws c.args.history.now) c.args.history.now false (running g c)
ready g c =
    let opening = c.args.history.now.opening in
    let is = c.opening-opening.ensures in
    let world = c.in_ok-world.ensures ∙ ap new_world (c.size.ensures ∙ ap (λ o. o.size) is) in
    let threads = c.threads-threads.ensures ∙ ap (λ o. o.threads) is in
    subst (λ (k : CoreState g.row.S.Denot g.row.O.Denot). AreParts g.S.Draws g.O.Draws (setup_by g.S.Draws g.O.Draws c.args.history.now) k false (running g c)) (sym c.requires.new)
    (parts-new g.S.Draws g.O.Draws opening c.requires.fresh (running g c) world threads
    (c.new-view.ensures ∙ ap (λ n. replicate n seen.Over) threads)
    (c.in_ok-walk.ensures ∙ c.walk.ensures ∙ ap (λ o. o.walk) is) (c.in_ok-selected.ensures ∙ c.selected.ensures ∙ ap (λ o. o.selected) is)
    (c.in_ok-other.ensures ∙ c.other.ensures ∙ ap (λ o. o.other) is)
    (c.in_ok-failed.ensures
    ∙ ap (λ w. map (failed_in w 0) c.monitors.result.now) world
    ∙ ap (λ m. map (failed_in (new_world opening.size) 0) m) (c.monitors.ensures ∙ ap (λ o. o.monitors) is)))

pub decide-requires-clause-made : goal.decide-requires-clause-made
decide-requires-clause-made g c =
    let at = goal.at.decide-requires-clause-made g c in
    can-decide g.S.Draws g.O.Draws (core g at.Start) (running g at.After-due) (ready g at.After-due) (kept g at.Start)

pub returns : goal.returns
returns g c =
    let at = goal.at.returns g c in
    core-decided g.S.Draws g.O.Draws (core g at.Start) (running g at.After-due) (ready g at.After-due) (kept g at.Start)
    c.decide.new.self
    c.decide.ensures.next c.decide.ensures.walk c.decide.ensures.selected c.decide.ensures.other c.decide.ensures.rest c.decide.ensures.able
