-- How many digits a number has.
use Rattle.std.proofs.Common.{ℕ, ◌^◌, ◌<◌, ◌≤◌, length, arith}
use Rattle.std.proofs.lemmas.Fmt.{length-decimal-le}
use Rattle.std.specs.Fmt.{decimal}

-- a number of 64 bits has at most 20
pub at_most_twenty : (n : ℕ) → n < 2 ^ 64 → length (decimal n) ≤ 20
at_most_twenty n small = length-decimal-le 20 n (omega arith) (omega arith) small
