use Rattle.std.proofs.Common.{◌≡◌, ap, sym, ◌∙◌}
use Rattle.std.proofs.lemmas.Option.{same_Some}
use Rattle.pure_run.specs.Core.{position, setup_by, verdict_of}
use Rattle.pure_run.specs.Finish.{outcome_at}
use Rattle.pure_run.proofs.Finish.{verdict-is}
use Rattle.pure_run.proofs.core_state.Core.finish.Goals as goal

pub returns-clause-run : goal.returns-clause-run
returns-clause-run g c verdict is =
    let i = c.self.inside in
    let found = c.in-Stopped.verdict in
    let there = verdict-is g.S.Draws g.O.Draws i.history i.running found c.self.invariant (sym c.next.ensures ∙ c.in-Stopped.is) in
    let same : found ≡ verdict =
    same_Some found verdict (sym there ∙ ap (λ core. verdict_of (setup_by g.S.Draws g.O.Draws core) core) c.self.view_is ∙ is) in
    c.finish.ensures
    ∙ ap (λ v. outcome_at (setup_by g.S.Draws g.O.Draws i.history) (position i.history) v) same
    ∙ ap (λ core. outcome_at (setup_by g.S.Draws g.O.Draws core) (position core) verdict) c.self.view_is
