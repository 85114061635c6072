-- Counts of faults, and why a call fails.
use Rattle.std.specs.Prelude.{◌≡◌, ◌⊎◌, ℕ, ◌+◌, ◌≤◌, min, Result, OnOk, OnErr}
use Rattle.surw_base.specs.Number.{greatest}

-- one more, but the greatest number stays
abbrev pub one_more : ℕ → ℕ
one_more count = min (count + 1) greatest

-- the count is greater, or stands at its greatest value
abbrev pub Rose : ℕ → ℕ → Type 0
Rose before now = one_more before ≤ now

-- a count never falls and stays where the call succeeds; a call fails only where the count rose, or for the other cause
pub record HasCause {A E : Type 0} (before now : ℕ) (result : Result A E) (other : Type 0) : Type 0 where
  pub never_falls : before ≤ now
  pub calm : OnOk result (now ≡ before)
  pub rose : OnErr result (Rose before now ⊎ other)
