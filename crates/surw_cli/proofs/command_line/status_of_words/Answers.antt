use Rattle.command_words.proofs.NoWords.{no-words}
use Rattle.surw_cli.specs.Jobs.{all_jobs}
use Rattle.surw_cli.proofs.command_line.status_of_words.Goals as goal

pub returns-in-Err-clause-no_text : goal.returns-in-Err-clause-no_text
returns-in-Err-clause-no_text g c = rw c.in-Err.is (λ _. c.surw-in-Err.ensures.unasked (no-words all_jobs))

pub returns-in-Err-clause-unopened : goal.returns-in-Err-clause-unopened
returns-in-Err-clause-unopened g c = rw c.in-Err.is (c.surw-in-Err.ensures.unopened (no-words all_jobs))
