-- The text of what is watched for.
use Rattle.std.specs.Prelude.{◌≡◌, ℕ, ◌^◌, ◌<◌, List, ◌∷◌, ◌++◌}
use Rattle.std.specs.Fmt.{decimal}
use Rattle.scenario_toml.specs.declared.watch.Watch.{Watch}
use Rattle.scenario_toml.specs.declared.watch.Watch.TheVariants.{CellEnd}
use Rattle.scenario_toml.specs.Texts.{watch_text}

-- both numbers are below 2 ^ 64
abbrev pub IsSmall : Watch → Type 0
IsSmall (CellEnd cell value) = (cell < 2 ^ 64) × (value < 2 ^ 64)
IsSmall _ = Unit {0}

-- the bytes are its text
pub record IsWatchText (bytes : List ℕ) (watch : Watch) : Type 0 where
  pub text : bytes ≡ watch_text watch
  pub below : IsSmall watch

-- the bytes are two numbers with a space between them
pub record AreTwoNumbers (bytes : List ℕ) (cell value : ℕ) : Type 0 where
  pub text : bytes ≡ decimal cell ++ 32 ∷ decimal value
  pub cell_below : cell < 2 ^ 64
  pub value_below : value < 2 ^ 64
