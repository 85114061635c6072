-- Each rule's strategy picks its choices.
use Rattle.walk_rules.specs.declared.rule.Rule.{Rule}
use Rattle.walk_rules.specs.declared.rule.Rule.TheVariants.{Urw, Surw, Pct, Plain, Follow}
use Rattle.walk_rules.specs.Strategies.{strategy}
use Rattle.run_rules.specs.RuleChoice.{choices}
use Rattle.run_rules.specs.StepwisePicks.{PicksChoices}
use Rattle.run_rules.proofs.FollowPicks.{follow-picks}
use Rattle.run_rules.proofs.PctPicks.{pct-picks}
use Rattle.run_rules.proofs.PlainPicks.{plain-picks}
use Rattle.run_rules.proofs.SurwPicks.{surw-picks}
use Rattle.run_rules.proofs.UrwPicks.{urw-picks}

pub picks-choices : (rule : Rule) → PicksChoices (strategy rule) (choices rule)
picks-choices Urw = urw-picks
picks-choices Surw = surw-picks
picks-choices (Pct depth) = pct-picks depth
picks-choices Plain = plain-picks
picks-choices (Follow list) = follow-picks list
