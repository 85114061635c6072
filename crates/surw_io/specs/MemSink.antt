-- The sink in memory: what it holds, and what its writes answer.
use Rattle.std.specs.Prelude.{◌==◌, ◌&&◌, ◌||◌, ℕ, ◌-◌, min, nat_lt, if◌then◌else◌, List, ◌++◌, length, Option, Some, None}
use Rattle.surw_io.specs.Calls.{is_listed}
use Rattle.surw_io.specs.Cause.{one_more}

-- what it holds: the bytes taken, the most that it takes in all and in one write, the calls that fail, and its counts
pub record SinkState : Type 0 where
  pub taken : List ℕ
  pub room : ℕ
  pub piece : ℕ
  pub fails : List ℕ
  pub calls : ℕ
  pub faults : ℕ

-- the bytes that it can still take
abbrev pub room_left : SinkState → ℕ
room_left sink = sink.room - length sink.taken

-- how many bytes the next write takes where this many are offered, `None` where it fails
abbrev pub write_gives : SinkState → ℕ → Option ℕ
write_gives sink offered =
    if is_listed sink.fails sink.calls || (room_left sink == 0 && nat_lt 0 offered)
    then None
    else Some (min (min offered sink.piece) (room_left sink))

-- a write took these bytes
abbrev pub took : SinkState → List ℕ → SinkState
took sink bytes = record sink { taken = sink.taken ++ bytes; calls = one_more sink.calls }

-- a write failed
abbrev pub refused : SinkState → SinkState
refused sink = record sink { calls = one_more sink.calls; faults = one_more sink.faults }
