-- The answer to a command line, where no device fails: the words and what the shelf gives for names decide it.
use Rattle.std.specs.Prelude.{◌≡◌, ℕ, List, [], Option, Some, unwrap_or}
use Rattle.std.specs.Option.{IsSome}
use Rattle.fault_text.specs.declared.fault.Fault.TheVariants.{Words}
use Rattle.surw_io.specs.Content.{File}
use Rattle.surw_cli.specs.Answer.{Answer, Refusal}
use Rattle.command_words.specs.Ask.{Ask, AsksFor, AsksForNothing}
use Rattle.command_words.specs.declared.job.Job.{Job}
use Rattle.command_words.specs.declared.job.Job.TheVariants.{Order, Draws, Plan, Profile, Check, Make, Run, Replay}
use Rattle.surw_cli.specs.CheckAnswer.{check_answer}
use Rattle.surw_cli.specs.DrawsAnswer.{draws_answer}
use Rattle.surw_cli.specs.FileAnswer.{Coming, IsFileAnswer}
use Rattle.surw_cli.specs.Jobs.{file_limit}
use Rattle.surw_cli.specs.MakeAnswer.{make_answer}
use Rattle.surw_cli.specs.OrderAnswer.{order_answer}
use Rattle.surw_cli.specs.PlanAnswer.{plan_answer}
use Rattle.surw_cli.specs.ProfileAnswer.{profile_answer}
use Rattle.surw_cli.specs.ReplayAnswer.{IsReplayAnswer}

-- what a shelf gives for a name at the next open, and at the one after it
pub record Files : Type 0 where
  pub first : Coming
  pub second : Coming

-- one file under every name at the next open, and one at each later one
abbrev pub safe_files : List ℕ → List ℕ → Files
safe_files first second = record { first = λ _. Some (File first); second = λ _. Some (File second) }

-- the name of a saved file; where there is none, none is looked at
abbrev pub saved_name : Option (List ℕ) → List ℕ
saved_name name = unwrap_or name []

-- what a job answers to the bytes of its file; a run on threads of its own answers what one on the caller's does. A saved
-- file is opened after it, and `make` has a number in place of a file
abbrev pub answer_of : Job → Ask → Coming → List ℕ → Answer → Type 0
answer_of Order ask second bytes answer = order_answer bytes answer
answer_of Draws ask second bytes answer = draws_answer bytes answer
answer_of Plan ask second bytes answer = plan_answer ask.choice ask.save bytes answer
answer_of Profile ask second bytes answer = profile_answer ask.choice bytes answer
answer_of Check ask second bytes answer = check_answer bytes answer
answer_of Make ask second bytes answer = make_answer ask.number answer
answer_of Run ask second bytes answer = plan_answer ask.choice ask.save bytes answer
answer_of Replay ask second bytes answer = IsReplayAnswer bytes (second (saved_name ask.saved)) answer

abbrev pub answer_to : Ask → Coming → List ℕ → Answer → Type 0
answer_to ask second = answer_of ask.job ask second

-- the answer of a job over its file, which `make` hasn't
abbrev pub IsJobAnswer : Job → Ask → Files → Answer → Type 0
IsJobAnswer Make ask files answer = make_answer ask.number answer
IsJobAnswer job ask files answer = IsFileAnswer (file_limit job) (answer_of job ask files.second) (files.first ask.name) answer

-- the answer to what is asked for
abbrev pub IsAskAnswer : Ask → Files → Answer → Type 0
IsAskAnswer ask files answer = IsJobAnswer ask.job ask files answer

-- the words ask for none of these jobs and are refused, or the answer is that to what they ask for
pub data IsAnswer (jobs : List Job) (words : List (List ℕ)) (files : Files) (answer : Answer) : Type 0 where
  NoJob : AsksForNothing jobs words → answer ≡ Refusal Words → IsAnswer jobs words files answer
  OfJob : (ask : Ask) → AsksFor jobs words ask → IsAskAnswer ask files answer → IsAnswer jobs words files answer

-- the shelf tells of each name what it gives
abbrev pub TellsAll : Coming → Type 0
TellsAll coming = (name : List ℕ) → IsSome (coming name)

-- no two answers hold of one command line, over a shelf that tells what it gives
abbrev pub OneAnswer : Type 0
OneAnswer = (jobs : List Job) (words : List (List ℕ)) (files : Files) → TellsAll files.first → TellsAll files.second
    → (answer other : Answer) → IsAnswer jobs words files answer → IsAnswer jobs words files other → other ≡ answer
