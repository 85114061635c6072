-- A strategy picks step by step what its choices are from whole lists.
use Rattle.std.specs.Prelude.{◌≡◌, List, [], ◌∷◌, ◌++◌, slice_set, Option, Some, IsOk}
use Rattle.event_class.specs.declared.event.Event.{Event}
use Rattle.event_class.specs.Selection.{has}
use Rattle.walk_rules.specs.declared.picked.Picked.TheVariants.{Grant}
use Rattle.walk_rules.specs.State.{new_memory}
use Rattle.walk_rules.specs.Strategy.{Strategy}
use Rattle.walk_rules.specs.Walk.{kept_after}
use Rattle.run_rules.specs.declared.entry.Entry.{Entry}
use Rattle.run_rules.specs.Bounds.{bounds_over}
use Rattle.run_rules.specs.Position.{Position, earlier}
use Rattle.run_rules.specs.RuleChoice.{pick_with}
use Rattle.run_rules.specs.Setup.{Setup}
use Rattle.run_rules.specs.StrategyChoices.{Choices}

-- all that was asked at the positions before was answered
pub record WereAnswered (choices : Choices) (setup : Setup) (xs : List Position) : Type 0 where
  pub selected : IsOk (setup.selected.answers (bounds_over (choices.selected_at setup) xs))
  pub other : IsOk (setup.other.answers (bounds_over (choices.other_at setup) xs))

-- where all was answered before a position, the pick there is the choice and asks the same; and what is kept is what
-- it is found to be: nothing at the start, the same whatever the last words are, and after a step what the step leaves
pub record PicksChoices (strategy : Strategy) (choices : Choices) : Type 0 where
  pub asks_selected : (setup : Setup) (x : Position) → WereAnswered choices setup (earlier x)
      → (pick_with strategy choices setup x).selected_bounds ≡ choices.selected_at setup x
  pub asks_other : (setup : Setup) (x : Position) → WereAnswered choices setup (earlier x)
      → (pick_with strategy choices setup x).other_bounds ≡ choices.other_at setup x
  pub picks : (setup : Setup) (x : Position) → WereAnswered choices setup (earlier x)
      → (pick_with strategy choices setup x).picked ≡ choices.choice_at setup x
  pub starts : (setup : Setup) (words : List (Option Event)) → choices.memory_at setup (record { journal = []; words = words }) ≡ new_memory
  pub ignores_words : (setup : Setup) (x y : Position) → x.journal ≡ y.journal → earlier x ≡ earlier y
      → choices.memory_at setup x ≡ choices.memory_at setup y
  pub keeps : (setup : Setup) (journal : List Entry) (entry : Entry) (before after : List (Option Event))
      → slice_set after entry.thread (Some entry.event) ≡ before
      → WereAnswered choices setup (earlier (record { journal = journal; words = before }))
      → choices.choice_at setup (record { journal = journal; words = before }) ≡ Grant entry.thread entry.forced
      → kept_after (pick_with strategy choices setup (record { journal = journal; words = before })).memory
      (has setup.selection entry.event) entry.forced
      ≡ choices.memory_at setup (record { journal = journal ++ entry ∷ []; words = after })
