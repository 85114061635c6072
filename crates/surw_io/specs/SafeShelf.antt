-- The shelf of two texts.
use Rattle.std.specs.Prelude.{ℕ, Bool, List}
use Rattle.surw_io.specs.Cause.{one_more}

-- what the next open gives, what each later one gives, what is left of the opened text, the count of opens, and whether a file was created
pub record TextsState : Type 0 where
  pub first : List ℕ
  pub second : List ℕ
  pub left : List ℕ
  pub opens : ℕ
  pub ready : Bool

-- after an open the first text is left, and the second is the next
abbrev pub opened : TextsState → TextsState
opened texts = record texts { first = texts.second; left = texts.first; opens = one_more texts.opens }
