-- The answer of the job `order` to the bytes of its file.
use Rattle.std.specs.Prelude.{None, ◌≡◌, ℕ, List, length}
use Rattle.draw_split.specs.Named.{Names}
use Rattle.draw_split.specs.Split.{Parts}
use Rattle.draw_split.specs.SplitFault.{IsRefused}
use Rattle.draw_split.specs.declared.naming.SplitFault.{SplitFault}
use Rattle.draw_split.specs.declared.naming.SplitFault.TheVariants as split
use Rattle.order_text.specs.OrderFile.{IsOrderFile, IsOtherOrder}
use Rattle.order_text.specs.OrderText.{order_text}
use Rattle.fault_text.specs.declared.fault.Fault.TheVariants.{Lines, Length, Large}
use Rattle.surw_cli.specs.Answer.{Answer, Report, Refusal}
use Rattle.surw_cli.specs.declared.status.Status.TheVariants.{Done}

-- the bytes are an order file whose draws name a split, which is printed
pub record IsOrderReport (bytes text : List ℕ) : Type 0 where
  pub counts : List ℕ
  pub draws : List ℕ
  pub form : IsOrderFile bytes counts draws
  pub split : Parts
  pub named : Names counts draws split
  pub printed : text ≡ order_text (length counts) split

-- they are an order file whose draws name no order, for this cause
pub record IsMisdrawn (bytes : List ℕ) (fault : SplitFault) : Type 0 where
  pub counts : List ℕ
  pub draws : List ℕ
  pub form : IsOrderFile bytes counts draws
  pub refused : IsRefused counts draws fault

-- no two cases hold of one file
abbrev pub order_answer : List ℕ → Answer → Type 0
order_answer bytes (Report Done text None) = IsOrderReport bytes text
order_answer bytes (Refusal (Lines number)) = IsOtherOrder bytes number
order_answer bytes (Refusal (Length kept needed)) = IsMisdrawn bytes (split.Length kept needed)
order_answer bytes (Refusal (Large place kept below)) = IsMisdrawn bytes (split.Large place kept below)
order_answer bytes _ = ⊥
