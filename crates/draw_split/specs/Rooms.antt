-- What an order and offsets have to be, each by itself: no room mentions an order.
use Rattle.std.specs.Prelude.{◌≡◌, ℕ, ◌+◌, ◌<◌, ◌==◌, List, [], length, count_by, slice_index, slice_index_or}

-- the order has each thread as often as it is counted, and no other thread
pub record Fits (counts order : List ℕ) : Type 0 where
  pub each : (thread : ℕ) → count_by (λ other. other == thread) order ≡ slice_index counts thread

-- one offset for each time a thread is counted, the j-th, from 0, below the count less j
pub record IsInRoom (count : ℕ) (offsets : List ℕ) : Type 0 where
  pub full : length offsets ≡ count
  pub each : (j : ℕ) → j < length offsets → slice_index offsets j + j < count

-- each thread's offsets are in its room
abbrev pub AreInRooms : List ℕ → List (List ℕ) → Type 0
AreInRooms counts offsets = (thread : ℕ) → IsInRoom (slice_index counts thread) (slice_index_or offsets thread [])
