use Rattle.std.proofs.Common.{length, ap, ◌∙◌, arith}
use Rattle.walk_rules.proofs.MarkedThreads.{able-members, marked-few}
use Rattle.walk_rules.specs.Seen.{able_threads, is_able}
use Rattle.walk_rules.proofs.announced.Announced.able.Goals as goal

pub len-requires : goal.len-requires
len-requires c = let few = marked-few is_able c.self.inside.seen.items c.self.invariant.few in omega (arith, few, c.self.invariant.able_marked)

pub returns : goal.returns
returns c =
    c.len.ensures
    ∙ ap length (able-members c.self.inside.seen.items c.self.inside.able.bits c.self.invariant.few c.self.invariant.able_marked)
    ∙ ap (λ view. length (able_threads view)) c.self.view_is
