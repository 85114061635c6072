-- The answer of a job is that over its file, or for `make` that to its number.
use Rattle.std.proofs.Common.{◌≢◌, ◌⊎◌, inl, inr, refl}
use Rattle.command_words.specs.Ask.{Ask}
use Rattle.command_words.specs.declared.job.Job.{Job}
use Rattle.command_words.specs.declared.job.Job.TheVariants.{Order, Draws, Plan, Profile, Check, Make, Run, Replay}
use Rattle.surw_cli.specs.Answer.{Answer}
use Rattle.surw_cli.specs.CommandAnswer.{Files, IsJobAnswer, answer_of}
use Rattle.surw_cli.specs.FileAnswer.{IsFileAnswer}
use Rattle.surw_cli.specs.Jobs.{file_limit}
use Rattle.surw_cli.specs.MakeAnswer.{make_answer}

-- the answer of a job over its file
abbrev pub IsOverFile : Job → Ask → Files → Answer → Type 0
IsOverFile job ask files answer = IsFileAnswer (file_limit job) (answer_of job ask files.second) (files.first ask.name) answer

pub over-file : (job : Job) (ask : Ask) (files : Files) (answer : Answer) → job ≢ Make → IsOverFile job ask files answer → IsJobAnswer job ask files answer
over-file Order ask files answer other made = made
over-file Draws ask files answer other made = made
over-file Plan ask files answer other made = made
over-file Profile ask files answer other made = made
over-file Check ask files answer other made = made
over-file Make ask files answer other made = absurd (other refl)
over-file Run ask files answer other made = made
over-file Replay ask files answer other made = made

pub job-answers : (job : Job) (ask : Ask) (files : Files) (answer : Answer) → IsJobAnswer job ask files answer
    → IsOverFile job ask files answer ⊎ make_answer ask.number answer
job-answers Order ask files answer made = inl made
job-answers Draws ask files answer made = inl made
job-answers Plan ask files answer made = inl made
job-answers Profile ask files answer made = inl made
job-answers Check ask files answer made = inl made
job-answers Make ask files answer made = inr made
job-answers Run ask files answer made = inl made
job-answers Replay ask files answer made = inl made
