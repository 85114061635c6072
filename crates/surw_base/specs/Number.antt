-- Numbers of 64 bits, and the text of a number.
use Rattle.std.specs.Prelude.{◌≡◌, ℕ, ◌+◌, ◌-◌, ◌%◌, ◌^◌, ◌<◌, List, slice_index}
use Rattle.std.specs.Fmt.{decimal}
use Rattle.std.specs.Int.{IsInRange}

-- the greatest number, at which a count stays
abbrev pub greatest : ℕ
greatest = 2 ^ 64 - 1

-- a sum modulo 2 ^ 64
abbrev pub wrapping_sum : ℕ → ℕ → ℕ
wrapping_sum m n = (m + n) % 2 ^ 64

-- the bytes are the decimal digits of a number below 2 ^ 64, without leading zeros
pub record IsNumberText (bytes : List ℕ) (n : ℕ) : Type 0 where
  pub digits : bytes ≡ decimal n
  pub below : n < 2 ^ 64

-- the bytes don't begin with a digit, so a number before them ends there
abbrev pub BeginsWithNoDigit : List ℕ → Type 0
BeginsWithNoDigit bytes = IsInRange 48 57 (slice_index bytes 0) → ⊥
