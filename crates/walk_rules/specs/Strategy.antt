-- A strategy: how it takes one step.
use Rattle.std.specs.Prelude.{ℕ, Bool, List, Option}
use Rattle.seed_draws.specs.Answers.{Answering}
use Rattle.walk_rules.specs.declared.asked.Asked.{Asked}
use Rattle.walk_rules.specs.declared.picked.Picked.{Picked}
use Rattle.walk_rules.specs.declared.seen.Seen.{Seen}
use Rattle.walk_rules.specs.State.{Memory, WalkState}

-- one pick: the bounds that it asks of each source, what it picks, and what is kept where it grants a step
pub record OnePick : Type 0 where
  pub selected_bounds : List ℕ
  pub other_bounds : List ℕ
  pub picked : Picked
  pub memory : Memory

-- a strategy is its pick, from the walk, what is seen of the threads and the answers of the two sources; whether it
-- takes selected events from the numbers left; whether it wants every event selected; and the list of entries that it
-- asks for, one a step, where it follows one
pub record Strategy : Type 0 where
  pub pick : WalkState → List Seen → Answering → Answering → OnePick
  pub counts_down : Bool
  pub wants_every : Bool
  pub asked : Option (List Asked)
