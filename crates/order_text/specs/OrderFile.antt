-- Order files.
use Rattle.std.specs.Prelude.{◌≡◌, ℕ, zero, suc, List, [], ◌∷◌, codes}
use Rattle.order_text.specs.Counts.{AreCounts}
use Rattle.order_text.specs.FileFault.{IsFirstWrongLine}
use Rattle.surw_base.specs.Lines.{IsListText}
use Rattle.order_text.specs.Lines.{lines_of}

-- the first line lists the counts, the second the draws, and nothing follows
pub record IsOrderFile (bytes counts draws : List ℕ) : Type 0 where
  pub counts_line : List ℕ
  pub draws_line : List ℕ
  pub lines : lines_of bytes ≡ counts_line ∷ draws_line ∷ []
  pub counts_listed : IsListText (codes "counts") counts counts_line
  pub counts_allowed : AreCounts counts
  pub draws_listed : IsListText (codes "draws") draws draws_line

-- what the line at each place, from 0, has to be
abbrev pub IsOrderLine : ℕ → List ℕ → Type 0
IsOrderLine zero line = (counts : List ℕ) × IsListText (codes "counts") counts line × AreCounts counts
IsOrderLine (suc zero) line = (draws : List ℕ) × IsListText (codes "draws") draws line
IsOrderLine (suc (suc place)) line = ⊥

-- the bytes are no order file, and this is the number of the first wrong line
abbrev pub IsOtherOrder : List ℕ → ℕ → Type 0
IsOtherOrder bytes number = IsFirstWrongLine IsOrderLine 2 (lines_of bytes) number
