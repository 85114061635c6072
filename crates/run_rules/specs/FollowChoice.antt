-- The choice of a replay at a position: the thread of the entry that is asked for there.
use Rattle.std.specs.Prelude.{List, [], length, false, slice_get}
use Rattle.walk_rules.specs.declared.asked.Asked.{Asked}
use Rattle.walk_rules.specs.declared.picked.Picked.TheVariants.{Grant}
use Rattle.walk_rules.specs.Follow.{asked_thread}
use Rattle.walk_rules.specs.State.{new_memory}
use Rattle.run_rules.specs.StrategyChoices.{Choices}

abbrev pub follow_choices : List Asked → Choices
follow_choices list = record {
  selected_at = λ setup x. [];
  other_at = λ setup x. [];
  choice_at = λ setup x. Grant (asked_thread (slice_get list (length x.journal))) false;
  memory_at = λ setup x. new_memory;
}
