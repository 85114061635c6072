-- No words ask for nothing.
use Rattle.std.proofs.Common.{◌≡◌, List, [], false, refl, sym, ◌∙◌}
use Rattle.clap.proofs.OnLiterals.{clap_on_literals}
use Rattle.command_words.specs.Ask.{AsksForNothing}
use Rattle.command_words.specs.Command.{is_taken, surw_app}
use Rattle.command_words.specs.declared.job.Job.{Job}

not-taken : is_taken [] ≡ false
unfolding is_taken surw_app clap_on_literals
not-taken = refl

pub no-words : (jobs : List Job) → AsksForNothing jobs []
no-words jobs ask asked = cc (sym asked.taken ∙ not-taken)
