-- What a contract sees of a `Split`.
use Rattle.std.specs.Prelude.{ℕ, ◌-◌, List, [], ◌++◌, length, replicate}
use Rattle.surw_base.specs.declared.limits.TheConstants.{THREADS}

-- an order of threads, and a list of offsets for each thread
pub record Parts : Type 0 where
  pub order : List ℕ
  pub offsets : List (List ℕ)

-- the lists, with empty ones in the place of those that are missing
abbrev pub padded : List (List ℕ) → List (List ℕ)
padded lists = lists ++ replicate (THREADS - length lists) []
