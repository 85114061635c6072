use Rattle.std.proofs.Common.{◌<◌, length, sym, ◌∙◌}
use Rattle.walk_rules.specs.Walk.{NoOtherIsWrong}
use Rattle.pure_run.specs.Core.{last_thread}
use Rattle.pure_run.proofs.LastWrong.{some-if}
use Rattle.pure_run.proofs.running.Running.wrong.Goals as goal

pub wrong_at-requires-clause-thread : goal.wrong_at-requires-clause-thread
wrong_at-requires-clause-thread g c =
    some-if (last_thread c.args.history.now.journal) (λ thread. thread < length c.args.self.now.view) c.in-Some.thread c.requires.last
    (sym c.last_thread.ensures ∙ c.in-Some.is)

pub returns-in-Some : goal.returns-in-Some
returns-in-Some g c =
    c.wrong_at.ensures.alone
    (some-if (last_thread c.args.history.now.journal) (NoOtherIsWrong c.args.self.now.walk c.args.self.now.view) c.in-Some.thread c.requires.right
    (sym c.last_thread.ensures ∙ c.in-Some.is))
