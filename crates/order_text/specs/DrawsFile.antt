-- Files of draws: what the job `draws` reads.
use Rattle.std.specs.Prelude.{◌≡◌, ℕ, zero, suc, ◌+◌, ◌^◌, ◌<◌, ◌≤◌, List, [], ◌∷◌, All, length, codes, slice_index_or}
use Rattle.draw_split.specs.Split.{Parts, padded}
use Rattle.surw_base.specs.declared.limits.TheConstants.{THREADS, STEPS}
use Rattle.order_text.specs.Counts.{AreCounts}
use Rattle.order_text.specs.FileFault.{IsFirstWrongLine}
use Rattle.surw_base.specs.Lines.{IsListText}
use Rattle.order_text.specs.Lines.{lines_of}

-- at most as many numbers of threads as steps
pub record AreThreads (order : List ℕ) : Type 0 where
  pub few : length order ≤ STEPS
  pub below : All (λ thread. thread < THREADS) order

-- at most as many offsets as steps, each below 2 ^ 32
pub record AreOffsets (offsets : List ℕ) : Type 0 where
  pub few : length offsets ≤ STEPS
  pub below : All (λ offset. offset < 2 ^ 32) offsets

-- the line lists a thread and then its offsets
pub record IsOffsetsLine (thread : ℕ) (offsets line : List ℕ) : Type 0 where
  pub listed : IsListText (codes "offsets") (thread ∷ offsets) line
  pub allowed : AreOffsets offsets

-- there is a line for each thread, which lists its offsets
pub record AreOffsetsLines (threads : ℕ) (offsets lines : List (List ℕ)) : Type 0 where
  pub full : length offsets ≡ threads
  pub many : length lines ≡ threads
  pub each : (thread : ℕ) → thread < threads → IsOffsetsLine thread (slice_index_or offsets thread []) (slice_index_or lines thread [])

-- the first line lists the counts, the second the order, the next the offsets of a thread for each count, and nothing follows
pub record IsDrawsFile (bytes counts : List ℕ) (split : Parts) : Type 0 where
  pub counts_line : List ℕ
  pub order_line : List ℕ
  pub offsets_lines : List (List ℕ)
  pub offsets : List (List ℕ)
  pub lines : lines_of bytes ≡ counts_line ∷ order_line ∷ offsets_lines
  pub counts_listed : IsListText (codes "counts") counts counts_line
  pub counts_allowed : AreCounts counts
  pub order_listed : IsListText (codes "order") split.order order_line
  pub order_allowed : AreThreads split.order
  pub offsets_listed : AreOffsetsLines (length counts) offsets offsets_lines
  pub offsets_padded : split.offsets ≡ padded offsets

-- what the line at each place, from 0, has to be, where so many threads are counted
abbrev pub IsDrawsLine : ℕ → ℕ → List ℕ → Type 0
IsDrawsLine threads zero line = (counts : List ℕ) × IsListText (codes "counts") counts line × AreCounts counts
IsDrawsLine threads (suc zero) line = (order : List ℕ) × IsListText (codes "order") order line × AreThreads order
IsDrawsLine threads (suc (suc thread)) line = (offsets : List ℕ) × (thread < threads) × IsOffsetsLine thread offsets line

-- the bytes are no file of draws, and this is the number of the first wrong line; so many threads are counted,
-- where the first line lists counts
pub record IsOtherDraws (bytes : List ℕ) (number : ℕ) : Type 0 where
  pub threads : ℕ
  pub counted : (counts : List ℕ) → IsListText (codes "counts") counts (slice_index_or (lines_of bytes) 0 [])
      → AreCounts counts → length counts ≡ threads
  pub first : IsFirstWrongLine (IsDrawsLine threads) (threads + 2) (lines_of bytes) number
