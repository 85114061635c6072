use Rattle.std.proofs.Common.{◌-◌, length}
use Rattle.frame_links.specs.Lists.{list_at}
use Rattle.page_cache.proofs.ListWalk.{IsListedTo}
use Rattle.page_cache.proofs.listed.listed.Given as goal

abbrev pub invariant-loop-at : goal.invariant-loop-at
invariant-loop-at l = IsListedTo (list_at l.links l.list) l.items l.at

abbrev pub decreases-loop-at : goal.decreases-loop-at
decreases-loop-at l = length (list_at l.links l.list) - length l.items
