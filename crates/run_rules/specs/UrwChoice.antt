-- The URW choice at a position, from the bag written out and the answers from the first bound on.
use Rattle.std.specs.Prelude.{ℕ, List, [], ◌∷◌}
use Rattle.walk_rules.specs.declared.picked.Picked.{Picked}
use Rattle.walk_rules.specs.Granted.{granted_at}
use Rattle.walk_rules.specs.State.{new_memory}
use Rattle.walk_rules.specs.Urw.{urw_bound, urw_thread}
use Rattle.run_rules.specs.Bounds.{answers_at}
use Rattle.run_rules.specs.NumbersLeft.{left_at}
use Rattle.run_rules.specs.Position.{Position, seen_at}
use Rattle.run_rules.specs.Setup.{Setup}
use Rattle.run_rules.specs.StrategyChoices.{Choices}

-- the size of the bag kept to the able threads
abbrev pub urw_bounds_at : Setup → Position → List ℕ
urw_bounds_at setup x = urw_bound (left_at setup x) (seen_at setup x) ∷ []

-- the selected source answers the bounds at all positions up to this one; its answer here picks from the bag
unfoldable pub urw_choice : Setup → Position → Picked
urw_choice setup x = granted_at (urw_thread (left_at setup x) (seen_at setup x)) (answers_at setup.selected.answers (urw_bounds_at setup) x)

abbrev pub urw_choices : Choices
urw_choices = record {
  selected_at = urw_bounds_at;
  other_at = λ setup x. [];
  choice_at = urw_choice;
  memory_at = λ setup x. new_memory;
}
