use Rattle.std.proofs.Common.{◌≡◌, ◌++◌, ◌∙◌, List, ap, map}
use Rattle.routine_kit.specs.declared.token.Token.{Token}
use Rattle.routine_kit.specs.declared.token.Token.TheVariants.{Value}
use Rattle.routine_kit.specs.Line.{operands_of}
use Rattle.routine_kit.specs.LineText.{into_tokens}
use Rattle.routine_kit.proofs.Replies.{reply-fits}
use Rattle.routine_kit.proofs.line_reading.act_of.Goals as goal

pub returns-in-Some-clause-found : goal.returns-in-Some-clause-found
returns-in-Some-clause-found c =
    let into = c.reply_of-into.result.1 in
    let found = c.in-Some.ensures.found in
    let tokens : c.args.tokens.now ≡ map Value (operands_of c.in-Some.shape) ++ into_tokens into =
    c.reply_of-into.ensures.found ∙ ap (λ (ws : List Token). ws ++ into_tokens into) found.1 in
    (found.0, tokens, reply-fits c.args.tokens.now (operands_of c.in-Some.shape) into tokens c.requires)
