-- Which draws are refused, and how.
use Rattle.std.specs.Prelude.{◌≡◌, ◌≢◌, ℕ, ◌+◌, ◌<◌, ◌≤◌, List, length, sum, slice_index}
use Rattle.draw_split.specs.DrawList.{IsDrawList}
use Rattle.draw_split.specs.declared.naming.SplitFault.{SplitFault}
use Rattle.draw_split.specs.declared.naming.SplitFault.TheVariants.{Length, Large, OutOfMemory}

-- as many draws as places, and this is the first that isn't below the number of places that are left
pub record IsFirstLarge (counts draws : List ℕ) (place kept below : ℕ) : Type 0 where
  pub full : length draws ≡ sum counts
  pub there : place < length draws
  pub kept_is : kept ≡ slice_index draws place
  pub left : below + place ≡ sum counts
  pub large : below ≤ kept
  pub before : (k : ℕ) → k < place → slice_index draws k + k < sum counts

-- the draws are refused so. Each case excludes the others, so each comes exactly where its own holds, want of memory aside
abbrev pub IsRefused : List ℕ → List ℕ → SplitFault → Type 0
IsRefused counts draws (Length kept needed) = (kept ≡ length draws) × (needed ≡ sum counts) × (kept ≢ needed)
IsRefused counts draws (Large place kept below) = IsFirstLarge counts draws place kept below
IsRefused counts draws OutOfMemory = IsDrawList counts draws
