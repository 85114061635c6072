use Rattle.std.proofs.Common.{ℕ, ◌<◌, List, length, slice_index, ap, sym, subst, ◌∙◌}
use Rattle.walk_rules.proofs.MarkedThreads.{able-members}
use Rattle.walk_rules.specs.Seen.{able_threads}
use Rattle.walk_rules.proofs.announced.Announced.able_at.Goals as goal

pub at-requires : goal.at-requires
at-requires c =
    let are =
    able-members c.self.inside.seen.items c.self.inside.able.bits c.self.invariant.few c.self.invariant.able_marked ∙ ap able_threads c.self.view_is in
    subst (λ (threads : List ℕ). c.args.place < length threads) (sym are) c.requires

pub returns : goal.returns
returns c =
    let are =
    able-members c.self.inside.seen.items c.self.inside.able.bits c.self.invariant.few c.self.invariant.able_marked ∙ ap able_threads c.self.view_is in
    c.at.ensures ∙ ap (λ (threads : List ℕ). slice_index threads c.args.place) are
