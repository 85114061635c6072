-- What a walk is seen as.
use Rattle.std.specs.Prelude.{ℕ, List, [], Option, None, Some}
use Rattle.walk_rules.specs.declared.picked.Grant.{Grant}
use Rattle.walk_rules.specs.declared.rule.Rule.{Rule}
use Rattle.walk_rules.specs.Ranked.{Ranked}

-- what a strategy keeps from one step to the next, beside the numbers left: the thread that is intended, and the
-- priorities of the threads and the change points, once they are drawn
pub record Memory : Type 0 where
  pub intended : Option ℕ
  pub priorities : List ℕ
  pub changes : List ℕ

-- what it keeps before the first step
abbrev pub new_memory : Memory
new_memory = record { intended = None; priorities = []; changes = [] }

-- what ranks keep
abbrev pub memory_of : Ranked → Memory
memory_of ranks = record { intended = None; priorities = ranks.priorities; changes = ranks.changes }

-- the priorities that ranks have, where there are any
abbrev pub priorities_of : Option Ranked → List ℕ
priorities_of None = []
priorities_of (Some ranks) = ranks.priorities

-- and their change points
abbrev pub changes_of : Option Ranked → List ℕ
changes_of None = []
changes_of (Some ranks) = ranks.changes

-- an intention, and what is known of ranks
abbrev pub ranked_memory : Option ℕ → Option Ranked → Memory
ranked_memory intended ranks = record { intended = intended; priorities = priorities_of ranks; changes = changes_of ranks }

-- the rule and the counts that it is made of, how many steps it was told, the numbers left, what the strategy
-- keeps, and the grant that waits for its step
pub record WalkState : Type 0 where
  pub rule : Rule
  pub counts : List ℕ
  pub steps : ℕ
  pub left : List ℕ
  pub memory : Memory
  pub waiting : Option Grant

-- a walk that was told nothing
abbrev pub new_walk : Rule → List ℕ → WalkState
new_walk rule counts = record { rule = rule; counts = counts; steps = 0; left = counts; memory = new_memory; waiting = None }
