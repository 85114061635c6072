use Rattle.std.proofs.Common.{◌-◌, length, take, arith}
use Rattle.std.proofs.lemmas.Grind.{common_steps}
use Rattle.routine_kit.proofs.Replies.{reply-only}
use Rattle.routine_kit.proofs.line_reading.reply_of.Goals as goal

pub returns-in-Arrow-clause-only : goal.returns-in-Arrow-clause-only
returns-in-Arrow-clause-only c operands into is =
    let tokens = c.args.tokens.now in reply-only tokens (take (length tokens - 2) tokens) _ operands into (grind (arith, common_steps)) is
