-- What a strategy chooses at positions, found from whole journals and whole lists of answers.
use Rattle.std.specs.Prelude.{ℕ, List}
use Rattle.walk_rules.specs.declared.picked.Picked.{Picked}
use Rattle.walk_rules.specs.State.{Memory}
use Rattle.run_rules.specs.Position.{Position}
use Rattle.run_rules.specs.Setup.{Setup}

-- the bounds that are asked of each source at a position, the choice there, and what is kept when the position is reached
pub record Choices : Type 0 where
  pub selected_at : Setup → Position → List ℕ
  pub other_at : Setup → Position → List ℕ
  pub choice_at : Setup → Position → Picked
  pub memory_at : Setup → Position → Memory
