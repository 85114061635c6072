use Rattle.std.proofs.Common.{arith}
use Rattle.walk_rules.proofs.ThreadSets.{taken, taken-below, taken-some}
use Rattle.walk_rules.proofs.thread_set.ThreadSet.take_lowest.Goals as goal

pub overflow_sub-self : goal.overflow_sub-self
overflow_sub-self c = taken-some c.args.self.now.bits c.requires

pub unwrap-requires : goal.unwrap-requires
unwrap-requires c =
    let below = taken-below c.args.self.now.bits c.requires in
    grind (arith, c.new.ensures.none, below)

pub returns : goal.returns
returns c =
    let is = taken c.args.self.now.bits c.requires in
    grind (arith, c.new.ensures.some, c.unwrap.ensures, is)
