use Rattle.std.proofs.Common.{set, ap, ◌∙◌}
use Rattle.pure_run.specs.Core.{after_word}
use Rattle.pure_run.proofs.InlineStep.{announces, inline-step, routine-is}
use Rattle.pure_run.proofs.inline.make_step.Goals as goal

pub take-requires : goal.take-requires
take-requires g c =
    announces g.R.Routine g.S.Draws g.O.Draws c.args.core.now c.args.routines.now.items c.args.thread c.perform-reply.result c.perform-reply.new.self
    c.requires.said c.perform-reply.ensures.step
    c.index_mut-routine.result.now
    (c.index_mut-routine.ensures.value
    ∙ routine-is g.R.Routine g.S.Draws g.O.Draws c.args.core.now c.args.routines.now.items c.args.thread c.perform-reply.result c.perform-reply.new.self
    c.requires.said c.perform-reply.ensures.step c.from.result _ (c.from.ensures ∙ c.get.ensures.same))

pub returns-clause-inline : goal.returns-clause-inline
returns-clause-inline g c plan inline =
    let core = c.args.core.now in
    let routines = c.args.routines.now.items in
    let routine = c.index_mut-routine.ensures.value
    ∙ routine-is g.R.Routine g.S.Draws g.O.Draws core routines c.args.thread c.perform-reply.result c.perform-reply.new.self
    c.requires.said c.perform-reply.ensures.step c.from.result _ (c.from.ensures ∙ c.get.ensures.same) in
    let taken = c.take.ensures ∙ ap (λ r. g.R.Routine.after_reply r c.perform-reply.result) routine in
    inline-step g.R.Routine g.S.Draws g.O.Draws core routines c.args.thread c.perform-reply.result c.perform-reply.new.self
    c.requires.said c.perform-reply.ensures.step plan inline
    c.say.new.self (set routines c.from.result c.take.new.self)
    (c.say.ensures ∙ ap (λ event. after_word c.perform-reply.new.self c.args.thread event) (c.announce.ensures ∙ ap g.R.Routine.announced taken))
    (ap (λ n. set routines n c.take.new.self) (c.from.ensures ∙ c.get.ensures.same) ∙ ap (λ r. set routines c.args.thread r) taken)
