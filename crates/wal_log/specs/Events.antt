-- The events of a log device: what each replies, and the log after it. The first case that fits holds.
use Rattle.std.specs.Prelude.{ℕ, ◌+◌, ◌-◌, ◌==◌, ◌||◌, [], ◌∷◌, ◌++◌, length, max, nat_lt, slice_set, None, Some, if◌then◌else◌}
use Rattle.surw_base.specs.Number.{greatest}
use Rattle.wal_log.specs.Log.{LogState, is_empty}

-- what an event replies, and the log after it
pub record Answer : Type 0 where
  pub reply : ℕ
  pub after : LogState

-- a reply to which the log stays as it is
abbrev pub stays : LogState → ℕ → Answer
stays log reply = record { reply = reply; after = log }

-- a reply, and the log after it
abbrev pub answer : ℕ → LogState → Answer
answer reply after = record { reply = reply; after = after }

-- the next slot is reserved, and empty
abbrev pub reserve : LogState → Answer
reserve log =
    if length log.reserved == log.slots then stays log 0 else
    answer (length log.reserved + 1) (record log { reserved = log.reserved ++ None ∷ [] })

-- a slot that is reserved and empty holds this value
abbrev pub put : LogState → ℕ → ℕ → Answer
put log slot value =
    if slot == 0 || nat_lt log.slots slot then stays log greatest else (
    if is_empty log slot then answer 0 (record log { reserved = slice_set log.reserved (slot - 1) (Some value) }) else
    stays log 1)

-- the mark is at least this number
abbrev pub mark : LogState → ℕ → Answer
mark log n =
    if nat_lt log.slots n then stays log greatest else (
    if nat_lt (length log.reserved) n then stays log 1 else
    answer 0 (record log { mark = max log.mark n }))

-- where the mark is
abbrev pub durable : LogState → Answer
durable log = stays log log.mark
