use Rattle.std.proofs.Common.{◌-◌, length}
use Rattle.frame_links.specs.Lists.{list_at}
use Rattle.walk_rules.specs.Seen.{is_able, seen_of}
use Rattle.walk_rules.proofs.LinkSearch.{IsSearchTo, place_found}
use Rattle.walk_rules.proofs.ranks.first_able.Given as goal

abbrev pub invariant-loop-at : goal.invariant-loop-at
invariant-loop-at l = IsSearchTo (λ thread. is_able (seen_of l.view thread)) (list_at l.links 0) l.at

abbrev pub decreases-loop-at : goal.decreases-loop-at
decreases-loop-at l = length (list_at l.links 0) - place_found (list_at l.links 0) l.at
