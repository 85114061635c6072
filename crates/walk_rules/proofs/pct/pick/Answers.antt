use Rattle.std.proofs.Common.{IsTrue, ap, sym, subst, ◌∙◌}
use Rattle.walk_rules.specs.Pct.{highest}
use Rattle.walk_rules.specs.Seen.{able_threads, is_able, seen_of}
use Rattle.walk_rules.proofs.AbleThreads.{able-place}
use Rattle.walk_rules.proofs.PctLaws.{highest-holds}
use Rattle.walk_rules.proofs.pct.pick.Goals as goal

pub returns-in-Ok-clause-able : goal.returns-in-Ok-clause-able
returns-in-Ok-clause-able g c =
    subst (λ t. IsTrue (is_able (seen_of c.args.view.now t)))
    (sym (c.highest.ensures.highest ∙ ap (λ v. highest c.change.new.self.priorities (able_threads v)) c.as_slice-in-Ok.ensures.same))
    (highest-holds (λ t. IsTrue (is_able (seen_of c.args.view.now t))) c.change.new.self.priorities (able_threads c.args.view.now) c.requires.able
    (able-place c.args.view.now))
