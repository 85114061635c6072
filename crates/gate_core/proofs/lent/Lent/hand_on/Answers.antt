use Rattle.std.proofs.Common.{length, ap, sym, ◌∙◌}
use Rattle.std.specs.Prelude.{slice_get}
use Rattle.pure_run.specs.Core.{CoreState}
use Rattle.gate_core.proofs.lent.Lent.hand_on.Goals as goal

pub say-requires : goal.say-requires
say-requires g c =
    let made = c.self.invariant.after (ap (λ lent. lent.performed) c.self.view_is ∙ c.requires) in
    ap (λ (core : CoreState g.row.S.Denot g.row.O.Denot). slice_get core.words c.self.inside.thread) c.state.ensures.value ∙ made.due

pub pass-requires-clause-round : goal.pass-requires-clause-round
pass-requires-clause-round g c =
    let made = c.self.invariant.after (ap (λ lent. lent.performed) c.self.view_is ∙ c.requires) in
    ap (λ (core : CoreState g.row.S.Denot g.row.O.Denot). length core.journal) (c.state-2.ensures.value ∙ c.say.ensures)
    ∙ ap (λ (core : CoreState g.row.S.Denot g.row.O.Denot). length core.journal) c.state.ensures.value
    ∙ sym made.number
