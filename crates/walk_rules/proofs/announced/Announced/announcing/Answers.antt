use Rattle.std.proofs.Common.{ap, ◌∙◌, arith}
use Rattle.std.specs.List.{count_by}
use Rattle.walk_rules.proofs.MarkedThreads.{marked-count, marked-few}
use Rattle.walk_rules.specs.Seen.{is_announcing}
use Rattle.walk_rules.proofs.announced.Announced.announcing.Goals as goal

pub len-requires : goal.len-requires
len-requires c = let few = marked-few is_announcing c.self.inside.seen.items c.self.invariant.few in omega (arith, few, c.self.invariant.announcing_marked)

pub returns : goal.returns
returns c =
    c.len.ensures
    ∙ marked-count is_announcing c.self.inside.seen.items c.self.inside.announcing.bits c.self.invariant.few c.self.invariant.announcing_marked
    ∙ ap (count_by is_announcing) c.self.view_is
