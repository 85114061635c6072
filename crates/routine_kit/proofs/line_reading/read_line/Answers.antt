use Rattle.std.proofs.Common.{◌++◌, ◌∙◌, List, All, ap, sym, subst}
use Rattle.std.proofs.lemmas.List.{take-append-drop}
use Rattle.routine_kit.specs.declared.token.Token.{Token}
use Rattle.routine_kit.specs.LineText.{IsToken, line_tokens, tokens_text}
use Rattle.routine_kit.proofs.LineNames.{few-tokens, line-read, made-text, none_read, split-line}
use Rattle.routine_kit.proofs.line_reading.read_line.Goals as goal

pub returns-in-None-clause-same : goal.returns-in-None-clause-same
returns-in-None-clause-same c =
    let text = c.args.text.now in
    let cut = c.split_at.ensures in
    none_read text
    (λ line is.
    let parts = split-line text _ _ _ line is c.token_len.ensures.place cut.front cut.back in
    c.in-None.ensures.only (line_tokens line) parts.1 is.below (few-tokens line))

pub returns-in-Some-clause-same : goal.returns-in-Some-clause-same
returns-in-Some-clause-same c =
    let text = c.args.text.now in
    let cut = c.split_at.ensures in
    let whole = sym (take-append-drop c.token_len.result text) ∙ (λ i. sym cut.front i ++ sym cut.back i) in
    let read = c.in-Some.ensures in
    let tokens = c.as_slice.ensures.value in
    line-read text c.line_of.result
    (made-text text _ _ _ c.line_of.result whole (read.found.0 ∙ ap tokens_text (sym tokens)) (subst (λ (l : List Token). All IsToken l) (sym tokens) read.found.1) c.line_of.ensures.found)
    (λ line is.
    let parts = split-line text _ _ _ line is c.token_len.ensures.place cut.front cut.back in
    c.line_of.ensures.only line parts.0 (tokens ∙ read.only (line_tokens line) parts.1 is.below (few-tokens line)) is.fits)
