-- A replay's pick is its choice.
use Rattle.std.proofs.Common.{List, refl}
use Rattle.event_class.specs.Selection.{has}
use Rattle.walk_rules.specs.declared.asked.Asked.{Asked}
use Rattle.walk_rules.specs.Follow.{follow}
use Rattle.walk_rules.specs.State.{new_memory}
use Rattle.run_rules.specs.FollowChoice.{follow_choices}
use Rattle.run_rules.specs.StepwisePicks.{PicksChoices}
use Rattle.run_rules.proofs.UrwPicks.{kept-same}

pub follow-picks : (list : List Asked) → PicksChoices (follow list) (follow_choices list)
follow-picks list = record {
  asks_selected = λ setup x answered. refl;
  asks_other = λ setup x answered. refl;
  picks = λ setup x answered. refl;
  starts = λ setup words. refl;
  ignores_words = λ setup x y same again. refl;
  keeps = λ setup journal entry before after word answered chosen. kept-same new_memory (has setup.selection entry.event) entry.forced refl;
}
