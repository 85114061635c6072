-- The calls of a device in memory, numbered from 0.
use Rattle.std.specs.Prelude.{ℕ, List, Bool, ◌==◌}
use Rattle.std.specs.List.{list_any}

-- the call of this number is listed to fail
abbrev pub is_listed : List ℕ → ℕ → Bool
is_listed fails call = list_any (λ number. number == call) fails
