use Rattle.std.proofs.Common.{true, ap, ap₂, ◌∙◌}
use Rattle.clap.specs.Words.{with_rule}
use Rattle.clap.specs.Simple.{app_of_fields, on_top}
use Rattle.command_words.specs.Command.{surw_app}
use Rattle.command_words.proofs.command.command.Goals as goal

pub returns : goal.returns
unfolding surw_app
returns c =
    let base = ap app_of_fields c.no_binary_name.ensures ∙ ap (on_top (λ s. record s { no_binary_name = true })) c.new.ensures.app in
    c.in_ok-command.ensures.shape c.option-4.ensures.local
    ∙ ap₂ with_rule (c.in_ok-arg-6.ensures.shape c.option-3.ensures.local
    ∙ ap₂ with_rule (c.in_ok-arg-5.ensures.shape c.option-2.ensures.local
    ∙ ap₂ with_rule (c.in_ok-arg-4.ensures.shape c.option.ensures.local
    ∙ ap₂ with_rule (c.in_ok-arg-3.ensures.shape c.positional-3.ensures.local
    ∙ ap₂ with_rule (c.in_ok-arg-2.ensures.shape c.positional-2.ensures.local
    ∙ ap₂ with_rule (c.in_ok-arg.ensures.shape c.positional.ensures.local ∙ ap₂ with_rule base c.positional.ensures.rule)
    c.positional-2.ensures.rule) c.positional-3.ensures.rule) c.option.ensures.rule) c.option-2.ensures.rule) c.option-3.ensures.rule) c.option-4.ensures.rule
