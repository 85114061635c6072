-- The answer of the job `draws` to the bytes of its file.
use Rattle.std.specs.Prelude.{None, ◌≡◌, ℕ, List}
use Rattle.draw_split.specs.JoinFault.{IsRefused}
use Rattle.draw_split.specs.Named.{Names}
use Rattle.draw_split.specs.Split.{Parts}
use Rattle.draw_split.specs.declared.joining.JoinFault.{JoinFault}
use Rattle.draw_split.specs.declared.joining.JoinFault.TheVariants as join
use Rattle.order_text.specs.DrawsFile.{IsDrawsFile, IsOtherDraws}
use Rattle.order_text.specs.DrawsText.{draws_text}
use Rattle.fault_text.specs.declared.fault.Fault.TheVariants.{Lines, Miscount, Offsets, Offset}
use Rattle.surw_cli.specs.Answer.{Answer, Report, Refusal}
use Rattle.surw_cli.specs.declared.status.Status.TheVariants.{Done}

-- the bytes are a file of draws, and the draws that name its order and offsets are printed
pub record IsDrawsReport (bytes text : List ℕ) : Type 0 where
  pub counts : List ℕ
  pub split : Parts
  pub form : IsDrawsFile bytes counts split
  pub draws : List ℕ
  pub named : Names counts draws split
  pub printed : text ≡ draws_text draws

-- they are a file of draws whose order and offsets no draws name, for this cause
pub record IsUnnamed (bytes : List ℕ) (fault : JoinFault) : Type 0 where
  pub counts : List ℕ
  pub split : Parts
  pub form : IsDrawsFile bytes counts split
  pub refused : IsRefused counts split fault

-- no two cases hold of one file
abbrev pub draws_answer : List ℕ → Answer → Type 0
draws_answer bytes (Report Done text None) = IsDrawsReport bytes text
draws_answer bytes (Refusal (Lines number)) = IsOtherDraws bytes number
draws_answer bytes (Refusal (Miscount thread counted seen)) = IsUnnamed bytes (join.Miscount thread counted seen)
draws_answer bytes (Refusal (Offsets thread counted seen)) = IsUnnamed bytes (join.Offsets thread counted seen)
draws_answer bytes (Refusal (Offset thread place kept below)) = IsUnnamed bytes (join.Offset thread place kept below)
draws_answer bytes _ = ⊥
