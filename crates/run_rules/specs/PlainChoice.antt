-- The plain choice at a position, from the answers from the first bound on.
use Rattle.std.specs.Prelude.{ℕ, List, [], ◌∷◌}
use Rattle.walk_rules.specs.declared.picked.Picked.{Picked}
use Rattle.walk_rules.specs.Granted.{granted_at}
use Rattle.walk_rules.specs.Plain.{plain_bound, plain_thread}
use Rattle.walk_rules.specs.State.{new_memory}
use Rattle.run_rules.specs.Bounds.{answers_at}
use Rattle.run_rules.specs.Position.{Position, seen_at}
use Rattle.run_rules.specs.Setup.{Setup}
use Rattle.run_rules.specs.StrategyChoices.{Choices}

-- the number of able threads
abbrev pub plain_bounds_at : Setup → Position → List ℕ
plain_bounds_at setup x = plain_bound (seen_at setup x) ∷ []

-- the other source answers the bounds at all positions up to this one; its answer here picks among the able threads
unfoldable pub plain_choice : Setup → Position → Picked
plain_choice setup x = granted_at (plain_thread (seen_at setup x)) (answers_at setup.other.answers (plain_bounds_at setup) x)

abbrev pub plain_choices : Choices
plain_choices = record {
  selected_at = λ setup x. [];
  other_at = plain_bounds_at;
  choice_at = plain_choice;
  memory_at = λ setup x. new_memory;
}
