use Rattle.std.proofs.Common.{arith}
use Rattle.surw_base.specs.declared.limits.TheConstants.{THREADS}
use Rattle.walk_rules.specs.ThreadSet.{members}
use Rattle.walk_rules.proofs.ThreadSets.{rest-some, rest-cleared, rest-lowest, rest-below}
use Rattle.walk_rules.proofs.thread_set.ThreadSet.at.Goals as goal

pub overflow_sub-rest : goal.overflow_sub-rest
overflow_sub-rest c =
    rest-some c.loop-passed.rest c.loop-passed._passed c.args.place (members THREADS 0 c.args.self.now.bits) c.loop-passed.invariant c.requires
    c.loop-passed-test.true

pub loop-passed-preserved : goal.loop-passed-preserved
loop-passed-preserved c =
    rest-cleared c.loop-passed.rest c.loop-passed._passed c.args.place (members THREADS 0 c.args.self.now.bits) c.loop-passed.invariant c.requires
    c.loop-passed-test.true

pub unwrap-requires : goal.unwrap-requires
unwrap-requires c =
    let below = rest-below c.loop-passed.rest c.loop-passed._passed c.args.place (members THREADS 0 c.args.self.now.bits) c.loop-passed.invariant c.requires
    (omega (arith, c.loop-passed.auto._passed-end, c.loop-passed-test.false)) in
    grind (arith, c.new.ensures.none, below)

pub returns : goal.returns
returns c =
    let lowest = rest-lowest c.loop-passed.rest c.loop-passed._passed c.args.place (members THREADS 0 c.args.self.now.bits) c.loop-passed.invariant c.requires
    (omega (arith, c.loop-passed.auto._passed-end, c.loop-passed-test.false)) in
    grind (arith, c.new.ensures.some, c.unwrap.ensures, lowest)
