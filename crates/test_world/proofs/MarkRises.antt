-- A mark never falls.
use Rattle.std.proofs.Common.{ℕ, ◌≤◌, Bool, true, false, length, max, arith}
use Rattle.std.specs.Prelude.{nat_lt, if◌then◌else◌}
use Rattle.surw_base.specs.Number.{greatest}
use Rattle.wal_log.specs.Log.{LogState}
use Rattle.wal_log.specs.Events.{Answer, stays, answer, mark}

-- what a mark answers, by whether the number is past the slots and past those reserved
abbrev marked : LogState → ℕ → Bool → Bool → Answer
marked log n past short =
    if past then stays log greatest else (if short then stays log 1 else answer 0 (record log { mark = max log.mark n }))

up-in : (log : LogState) (n : ℕ) (past short : Bool) → log.mark ≤ (marked log n past short).after.mark
up-in log n true short = omega arith
up-in log n false true = omega arith
up-in log n false false = omega arith

pub mark-up : (log : LogState) (n : ℕ) → log.mark ≤ (mark log n).after.mark
mark-up log n = up-in log n (nat_lt log.slots n) (nat_lt (length log.reserved) n)
