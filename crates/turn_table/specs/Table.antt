-- A turn table as contracts see it.
use Rattle.std.specs.Prelude.{ℕ}
use Rattle.atomic_table.specs.Seated.{TableId}

-- a table: what tells it from others, and how many seats it has
pub record TableState : Type 0 where
  pub id : TableId
  pub seats : ℕ
