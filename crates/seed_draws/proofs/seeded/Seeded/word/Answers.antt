use Rattle.std.proofs.Common.{◌≡◌, ℕ, ◌+◌, ◌<◌, ◌∙◌, ap, arith}
use Rattle.std.proofs.lemmas.Grind.{common_steps}
use Rattle.rand_pcg.specs.Lcg.{Lcg}
use Rattle.surw_base.specs.Number.{greatest}
use Rattle.seed_draws.specs.Seeded.{SeededState, Progress, after_word}
use Rattle.seed_draws.proofs.Progress.{generator_at-more, progress-more}
use Rattle.seed_draws.proofs.seeded.Seeded.word.Goals as goal

abbrev with_progress : ℕ → ℕ → ℕ → Progress → SeededState
with_progress seed stream bent progress = record { seed = seed; stream = stream; progress = progress; bent = bent }

pub invariant_of-self : goal.invariant_of-self
invariant_of-self c = λ below.
    let inside = c.self.inside in
    let next : c.saturating_add-self-inside.result ≡ inside.words + 1 = grind (arith, common_steps, c.saturating_add-self-inside.ensures, below) in
    let before : inside.words < greatest = omega (arith, next, below) in
    generator_at-more inside.seed inside.stream inside.words c.saturating_add-self-inside.result inside.generator _ next (c.self.invariant before)
    (ap (λ (p : ℕ × Lcg). p.1) c.next_word-word.ensures)

pub returns-clause-after : goal.returns-clause-after
returns-clause-after c =
    let inside = c.self.inside in
    ap (with_progress inside.seed inside.stream inside.bent)
    (progress-more inside.seed inside.stream inside.words c.saturating_add-self-inside.result inside.generator _
    (λ below. grind (arith, common_steps, c.saturating_add-self-inside.ensures, below))
    (λ past. grind (arith, common_steps, c.saturating_add-self-inside.ensures, past))
    c.self.invariant (ap (λ (p : ℕ × Lcg). p.1) c.next_word-word.ensures))
    ∙ ap after_word c.self.view_is
