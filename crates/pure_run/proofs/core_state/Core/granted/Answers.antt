use Rattle.std.proofs.Common.{sym, subst, ◌∙◌}
use Rattle.run_rules.specs.Position.{seen_at}
use Rattle.pure_run.specs.Core.{IsAble, position, setup_by}
use Rattle.pure_run.specs.Invariant.{IsAbleNext}
use Rattle.pure_run.proofs.Grant.{able-word}
use Rattle.pure_run.proofs.core_state.Core.granted.Goals as goal

pub returns-in-Granted-clause-able : goal.returns-in-Granted-clause-able
returns-in-Granted-clause-able g c =
    let i = c.self.inside in
    let setup = setup_by g.S.Draws g.O.Draws i.history in
    let able = subst (λ v. IsAbleNext v i.running.next) c.self.invariant.decided.parts.view c.self.invariant.decided.able in
    let granted = subst (λ n. IsAbleNext (seen_at setup (position i.history)) n) (sym c.next.ensures ∙ c.in-Granted.is) able in
    subst (λ core. IsAble (setup_by g.S.Draws g.O.Draws core) core c.in-Granted.grant.thread) c.self.view_is
    (able-word setup (position i.history) c.in-Granted.grant.thread granted)
