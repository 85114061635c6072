-- The laws of strategies hold of each rule's.
use Rattle.walk_rules.specs.declared.rule.Rule.{Rule}
use Rattle.walk_rules.specs.declared.rule.Rule.TheVariants.{Urw, Surw, Pct, Plain, Follow}
use Rattle.walk_rules.specs.Strategies.{strategy}
use Rattle.walk_rules.specs.Walk.{IsStrategy}
use Rattle.walk_rules.proofs.FollowLaws.{follow-is}
use Rattle.walk_rules.proofs.PctLaws.{pct-is}
use Rattle.walk_rules.proofs.PlainLaws.{plain-is}
use Rattle.walk_rules.proofs.SurwLaws.{surw-is}
use Rattle.walk_rules.proofs.UrwLaws.{urw-is}

pub is-strategy : (rule : Rule) → IsStrategy (strategy rule)
is-strategy Urw = urw-is
is-strategy Surw = surw-is
is-strategy (Pct depth) = pct-is depth
is-strategy Plain = plain-is
is-strategy (Follow list) = follow-is list
