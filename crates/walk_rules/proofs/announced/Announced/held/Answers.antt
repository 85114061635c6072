use Rattle.std.proofs.Common.{◌≡◌, map, ap, ◌∙◌, arith}
use Rattle.std.specs.Simd.Lanes.{mask_l}
use Rattle.walk_rules.proofs.MarkedThreads.{held-marked, held-members, marked-few}
use Rattle.walk_rules.specs.Seen.{held_threads, is_held}
use Rattle.walk_rules.proofs.announced.Announced.held.Goals.{After-without}
use Rattle.walk_rules.proofs.announced.Announced.held.Goals as goal

pub without-requires : goal.without-requires
without-requires c =
    let both = held-marked c.self.inside.seen.items in
    omega (arith, both, c.self.invariant.announcing_marked, c.self.invariant.able_marked)

marked : (c : After-without) → c.without.result.bits ≡ mask_l (map is_held c.self.inside.seen.items)
marked c =
    let both = held-marked c.self.inside.seen.items in
    omega (arith, both, c.without.ensures, c.self.invariant.announcing_marked, c.self.invariant.able_marked)

pub returns-clause-threads : goal.returns-clause-threads
returns-clause-threads c =
    held-members c.self.inside.seen.items c.without.result.bits c.self.invariant.few (marked (goal.at.returns-clause-threads c).After-without)
    ∙ ap held_threads c.self.view_is

pub returns-clause-few : goal.returns-clause-few
returns-clause-few c =
    let few = marked-few is_held c.self.inside.seen.items c.self.invariant.few in
    omega (arith, few, marked (goal.at.returns-clause-few c).After-without)
