use Rattle.std.proofs.Common.{length, ap, sym, ◌∙◌, arith}
use Rattle.pure_run.proofs.Grant.{has-step, last-is, step-at, thread-within}
use Rattle.pure_run.proofs.running.Running.grant.Goals as goal

pub bounds-words-from : goal.bounds-words-from
bounds-words-from g c =
    let within = thread-within g.S.Draws g.O.Draws c.args.history.now c.args.self.now c.requires.core c.args.thread c.requires.granted in
    omega (arith, within, ap (λ ws. length ws) c.words.ensures, c.from.ensures, c.get.ensures.same)

pub unreachable-requires-in_default-last : goal.unreachable-requires-in_default-last
unreachable-requires-in_default-last g c =
    c.in_default-last.not-Some (has-step g.S.Draws g.O.Draws c.args.history.now c.args.self.now c.requires.core c.args.thread c.requires.granted).event
    (c.last.ensures
    ∙ last-is g.S.Draws g.O.Draws c.args.history.now c.args.self.now c.requires.core c.args.thread c.requires.granted
    c.words.result.now c.from.result c.words.ensures (c.from.ensures ∙ c.get.ensures.same))

pub returns : goal.returns
returns g c =
    step-at g.S.Draws g.O.Draws c.args.history.now c.args.self.now c.requires.core c.args.thread c.requires.granted c.in-Some.event c.in-Granted.grant
    (sym c.in-Some.is
    ∙ c.last.ensures
    ∙ last-is g.S.Draws g.O.Draws c.args.history.now c.args.self.now c.requires.core c.args.thread c.requires.granted
    c.words.result.now c.from.result c.words.ensures (c.from.ensures ∙ c.get.ensures.same))
    (sym c.to_next.ensures ∙ c.in-Granted.is)
