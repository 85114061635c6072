use Rattle.std.proofs.Common.{eqb, length, ap, ◌∙◌, arith}
use Rattle.std.specs.Int.{bit_at}
use Rattle.walk_rules.proofs.MarkedThreads.{marked-bit}
use Rattle.walk_rules.specs.Seen.{is_able, seen_of}
use Rattle.walk_rules.proofs.announced.Announced.is_able.Goals as goal

pub has-requires : goal.has-requires
has-requires c = omega (arith, c.requires, ap length c.self.view_is, c.self.invariant.few)

pub returns : goal.returns
returns c =
    c.has.ensures
    ∙ ap (λ bits. eqb (bit_at bits c.args.thread) 1) c.self.invariant.able_marked
    ∙ marked-bit is_able c.self.inside.seen.items c.args.thread (omega (arith, c.requires, ap length c.self.view_is))
    ∙ ap (λ view. is_able (seen_of view c.args.thread)) c.self.view_is
