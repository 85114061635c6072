-- The choice at a position, and the bounds that are asked for it, by the rule of the setup. Of this crate's definitions
-- `choices` alone tells one rule from another; other files ask a rule only whether it counts down, whether it wants every
-- event, and which entries it asks for.
use Rattle.std.specs.Prelude.{ℕ, List, length, None}
use Rattle.seed_draws.specs.Answers.{answers_after}
use Rattle.walk_rules.specs.declared.picked.Picked.{Picked}
use Rattle.walk_rules.specs.declared.rule.Rule.{Rule}
use Rattle.walk_rules.specs.declared.rule.Rule.TheVariants.{Urw, Surw, Pct, Plain, Follow}
use Rattle.walk_rules.specs.State.{WalkState}
use Rattle.walk_rules.specs.Strategies.{strategy}
use Rattle.walk_rules.specs.Strategy.{OnePick, Strategy}
use Rattle.run_rules.specs.Bounds.{bounds_over}
use Rattle.run_rules.specs.FollowChoice.{follow_choices}
use Rattle.run_rules.specs.NumbersLeft.{left_by}
use Rattle.run_rules.specs.PctChoice.{pct_choices}
use Rattle.run_rules.specs.PlainChoice.{plain_choices}
use Rattle.run_rules.specs.Position.{Position, earlier, seen_at}
use Rattle.run_rules.specs.Setup.{Setup}
use Rattle.run_rules.specs.StrategyChoices.{Choices}
use Rattle.run_rules.specs.SurwChoice.{surw_choices}
use Rattle.run_rules.specs.UrwChoice.{urw_choices}

abbrev pub choices : Rule → Choices
choices Urw = urw_choices
choices Surw = surw_choices
choices (Pct depth) = pct_choices depth
choices Plain = plain_choices
choices (Follow list) = follow_choices list

-- the thread that is chosen, with its mark, or the refusal
abbrev pub choice : Setup → Position → Picked
choice setup x = (choices setup.rule).choice_at setup x

-- the bounds that the choices at some positions ask of the selected source
abbrev pub selected_asked : Setup → List Position → List ℕ
selected_asked setup xs = bounds_over ((choices setup.rule).selected_at setup) xs

-- and of the other source
abbrev pub other_asked : Setup → List Position → List ℕ
other_asked setup xs = bounds_over ((choices setup.rule).other_at setup) xs

-- the walk when a position is reached
abbrev pub walk_with : Strategy → Choices → Setup → Position → WalkState
walk_with strategy choices setup x = record {
  rule = setup.rule;
  counts = setup.counts;
  steps = length x.journal;
  left = left_by strategy.counts_down setup x;
  memory = choices.memory_at setup x;
  waiting = None;
}

-- the strategy's pick there, by what the sources answer after the positions before
abbrev pub pick_with : Strategy → Choices → Setup → Position → OnePick
pick_with strategy choices setup x =
    strategy.pick (walk_with strategy choices setup x) (seen_at setup x)
    (answers_after setup.selected.answers (bounds_over (choices.selected_at setup) (earlier x)))
    (answers_after setup.other.answers (bounds_over (choices.other_at setup) (earlier x)))

abbrev pub walk_at : Setup → Position → WalkState
walk_at setup x = walk_with (strategy setup.rule) (choices setup.rule) setup x

abbrev pub pick_at : Setup → Position → OnePick
pick_at setup x = pick_with (strategy setup.rule) (choices setup.rule) setup x
