-- What a write to the sink in memory answers.
use Rattle.std.proofs.Common.{◌≡◌, ℕ, ◌≤◌, Bool, true, false, if◌then◌else◌, Some, None, arith}
use Rattle.surw_io.specs.MemSink.{SinkState, write_gives}

-- what is given is the number behind the test
pub given : (fails : Bool) (m n : ℕ) → (if fails then None else Some m) ≡ Some n → m ≡ n
given true m n e = cc
given false m n e = cc

-- no more is taken than was offered
pub write_within : (sink : SinkState) (offered n : ℕ) → write_gives sink offered ≡ Some n → n ≤ offered
write_within sink offered n e = let same = given _ _ _ e in omega arith
