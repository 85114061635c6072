use Rattle.std.proofs.Common.{ℕ, ◌<◌, ap, sym, subst}
use Rattle.seed_draws.specs.Seeded.{SeededState}
use Rattle.seed_draws.specs.SeededLaws.{drawn_is_below}
use Rattle.seed_draws.proofs.seeded.SeededDraws.below.Goals as goal

pub returns-clause-below : goal.returns-clause-below
returns-clause-below c =
    subst (λ (n : ℕ). n < c.args.bound) (sym (ap (λ (p : ℕ × SeededState). p.0) c.draw.ensures)) (drawn_is_below c.args.bound c.args.self.now c.requires)
