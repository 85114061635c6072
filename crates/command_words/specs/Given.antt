-- The texts that words give.
use Rattle.std.specs.Prelude.{◌≡◌, ℕ, List, Option, IsTrue, codes, option_map}
use Rattle.command_words.specs.Command.{given, is_taken}
use Rattle.command_words.specs.declared.command.Given as read

-- a text for each name, where there is one
pub record Given : Type 0 where
  pub job : Option (List ℕ)
  pub name : Option (List ℕ)
  pub saved : Option (List ℕ)
  pub strategy : Option (List ℕ)
  pub seed : Option (List ℕ)
  pub depth : Option (List ℕ)
  pub save : Option (List ℕ)

-- what is given by texts
abbrev pub given_by : read.Given → Given
given_by texts = record {
  job = option_map (λ text. text.now) texts.job;
  name = option_map (λ text. text.now) texts.name;
  saved = option_map (λ text. text.now) texts.saved;
  strategy = option_map (λ text. text.now) texts.strategy;
  seed = option_map (λ text. text.now) texts.seed;
  depth = option_map (λ text. text.now) texts.depth;
  save = option_map (λ text. text.now) texts.save;
}

-- the command takes the words, and they give these texts
pub record IsGiven (words : List (List ℕ)) (texts : Given) : Type 0 where
  pub taken : IsTrue (is_taken words)
  pub job : texts.job ≡ given (codes "job") words
  pub name : texts.name ≡ given (codes "name") words
  pub saved : texts.saved ≡ given (codes "saved") words
  pub strategy : texts.strategy ≡ given (codes "strategy") words
  pub seed : texts.seed ≡ given (codes "seed") words
  pub depth : texts.depth ≡ given (codes "depth") words
  pub save : texts.save ≡ given (codes "save") words
