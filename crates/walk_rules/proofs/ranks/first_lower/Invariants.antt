use Rattle.std.proofs.Common.{◌-◌, length, ltb, get_or}
use Rattle.frame_links.specs.Lists.{list_at}
use Rattle.walk_rules.proofs.LinkSearch.{IsSearchTo, place_found}
use Rattle.walk_rules.proofs.ranks.first_lower.Given as goal

abbrev pub invariant-loop-at : goal.invariant-loop-at
invariant-loop-at l = IsSearchTo (λ thread. ltb (get_or l.priorities thread 0) l.priority) (list_at l.links 0) l.at

abbrev pub decreases-loop-at : goal.decreases-loop-at
decreases-loop-at l = length (list_at l.links 0) - place_found (list_at l.links 0) l.at
