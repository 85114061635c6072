-- What the words of a command line ask for.
use Rattle.std.specs.Prelude.{◌≡◌, ◌⊎◌, ℕ, List, Option, None, Some, Contains, IsSome, IsTrue, MatchOption, codes, is_some, option_map}
use Rattle.scenario_toml.specs.Texts.{strategy_of}
use Rattle.scenario_toml.specs.declared.choice.Choice.{Choice}
use Rattle.command_words.specs.Command.{given, is_taken}
use Rattle.command_words.specs.Job.{can_choose, can_save, can_seed, job_word, reads_saved}
use Rattle.command_words.specs.Number.{depth_of, number_of}
use Rattle.command_words.specs.declared.ask.Ask as read
use Rattle.command_words.specs.declared.job.Job.{Job}
use Rattle.command_words.specs.declared.job.Job.TheVariants.{Make}

-- a job, the name of its file, that of a saved file, that of a file to save to, what is chosen, and a number
pub record Ask : Type 0 where
  pub job : Job
  pub name : List ℕ
  pub saved : Option (List ℕ)
  pub save : Option (List ℕ)
  pub choice : Choice
  pub number : ℕ

-- what is asked for by texts
abbrev pub ask_by : read.Ask → Ask
ask_by ask = record {
  job = ask.job;
  name = ask.name.now;
  saved = option_map (λ name. name.now) ask.saved;
  save = option_map (λ name. name.now) ask.save;
  choice = ask.choice;
  number = ask.number;
}

-- a given text, and the value read of it: both are there, or neither
abbrev pub IsRead : {A : Type 0} → (List ℕ → Option A) → Option (List ℕ) → Option A → Type 0
IsRead read text value = MatchOption text (value ≡ None) (λ text. (read text ≡ value) × IsSome value)

-- a given text of which no value is read
abbrev pub IsUnread : {A : Type 0} → (List ℕ → Option A) → Option (List ℕ) → Type 0
IsUnread read text = MatchOption text ⊥ (λ text. read text ≡ None)

-- the number of a job over a name: for `make` the one that the name writes
abbrev pub number_by : Job → List ℕ → Option ℕ
number_by Make name = number_of name
number_by job name = Some 0

-- the words ask for one of these jobs, over the files of these names, with this choice and this number
pub record AsksFor (jobs : List Job) (words : List (List ℕ)) (ask : Ask) : Type 0 where
  pub taken : IsTrue (is_taken words)
  pub job : given (codes "job") words ≡ Some (job_word ask.job)
  pub among : Contains jobs ask.job
  pub name : given (codes "name") words ≡ Some ask.name
  pub saved : given (codes "saved") words ≡ ask.saved
  pub reads : is_some ask.saved ≡ reads_saved ask.job
  pub save : given (codes "save") words ≡ ask.save
  pub saves : IsSome ask.save → IsTrue (can_save ask.job)
  pub strategy : IsRead strategy_of (given (codes "strategy") words) ask.choice.strategy
  pub seed : IsRead number_of (given (codes "seed") words) ask.choice.seed
  pub depth : IsRead depth_of (given (codes "depth") words) ask.choice.depth
  pub chooses : IsSome ask.choice.strategy ⊎ IsSome ask.choice.depth → IsTrue (can_choose ask.job)
  pub seeds : IsSome ask.choice.seed → IsTrue (can_seed ask.job)
  pub number : number_by ask.job ask.name ≡ Some ask.number

-- the words ask for none of these jobs
abbrev pub AsksForNothing : List Job → List (List ℕ) → Type 0
AsksForNothing jobs words = (ask : Ask) → AsksFor jobs words ask → ⊥

-- two asks that the same words ask for are equal
abbrev pub OneAsk : Type 0
OneAsk = (jobs : List Job) (words : List (List ℕ)) (ask other : Ask) → AsksFor jobs words ask → AsksFor jobs words other → other ≡ ask
