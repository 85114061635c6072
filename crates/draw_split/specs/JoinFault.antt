-- Which orders with offsets are refused, and how.
use Rattle.std.specs.Prelude.{◌≡◌, ◌≢◌, ℕ, ◌+◌, ◌<◌, ◌≤◌, ◌==◌, List, [], length, count_by, slice_index, slice_index_or}
use Rattle.draw_split.specs.Rooms.{Fits, IsInRoom, AreInRooms}
use Rattle.draw_split.specs.Split.{Parts}
use Rattle.draw_split.specs.declared.joining.JoinFault.{JoinFault}
use Rattle.draw_split.specs.declared.joining.JoinFault.TheVariants.{Miscount, Offsets, Offset, OutOfMemory}

-- how often an order holds a thread
abbrev pub times : List ℕ → ℕ → ℕ
times order thread = count_by (λ other. other == thread) order

-- the offsets of a thread
abbrev pub offsets_of : Parts → ℕ → List ℕ
offsets_of split thread = slice_index_or split.offsets thread []

-- the least thread that the order holds more or less often than it is counted
pub record IsFirstMiscount (counts : List ℕ) (split : Parts) (thread counted seen : ℕ) : Type 0 where
  pub counted_is : counted ≡ slice_index counts thread
  pub seen_is : seen ≡ times split.order thread
  pub differ : counted ≢ seen
  pub before : (other : ℕ) → other < thread → times split.order other ≡ slice_index counts other

-- the order fits, and this is the least thread with more or fewer offsets than it is counted
pub record IsFirstUnfilled (counts : List ℕ) (split : Parts) (thread counted seen : ℕ) : Type 0 where
  pub fits : Fits counts split.order
  pub counted_is : counted ≡ slice_index counts thread
  pub seen_is : seen ≡ length (offsets_of split thread)
  pub differ : counted ≢ seen
  pub before : (other : ℕ) → other < thread → length (offsets_of split other) ≡ slice_index counts other

-- the order fits, each thread has as many offsets as it is counted, and this is the first offset of the least thread that isn't in its room
pub record IsFirstOutside (counts : List ℕ) (split : Parts) (thread place kept below : ℕ) : Type 0 where
  pub fits : Fits counts split.order
  pub filled : (other : ℕ) → length (offsets_of split other) ≡ slice_index counts other
  pub there : place < length (offsets_of split thread)
  pub kept_is : kept ≡ slice_index (offsets_of split thread) place
  pub left : below + place ≡ slice_index counts thread
  pub large : below ≤ kept
  pub before : (j : ℕ) → j < place → slice_index (offsets_of split thread) j + j < slice_index counts thread
  pub lower : (other : ℕ) → other < thread → IsInRoom (slice_index counts other) (offsets_of split other)

-- the first offset that isn't in its room, where as many are counted as there are
pub record IsOutside (offsets : List ℕ) (place : ℕ) : Type 0 where
  pub there : place < length offsets
  pub large : length offsets ≤ slice_index offsets place + place
  pub before : (j : ℕ) → j < place → slice_index offsets j + j < length offsets

-- the order and the offsets are refused so. Each case excludes the others, so each comes exactly where its own holds, want of memory aside
abbrev pub IsRefused : List ℕ → Parts → JoinFault → Type 0
IsRefused counts split (Miscount thread counted seen) = IsFirstMiscount counts split thread counted seen
IsRefused counts split (Offsets thread counted seen) = IsFirstUnfilled counts split thread counted seen
IsRefused counts split (Offset thread place kept below) = IsFirstOutside counts split thread place kept below
IsRefused counts split OutOfMemory = Fits counts split.order × AreInRooms counts split.offsets
