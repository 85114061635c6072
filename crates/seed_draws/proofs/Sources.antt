-- What seeded sources and sources of any kind answer.
use Rattle.std.proofs.Common.{ℕ, IsOk, refl}
use Rattle.seed_draws.specs.declared.any_draws.AnyDraws.{AnyDraws}
use Rattle.seed_draws.specs.declared.any_draws.AnyDraws.TheVariants.{Seed, Strict, Loose}
use Rattle.seed_draws.specs.Answers.{IsSource, NeverRefuses, source_of}
use Rattle.seed_draws.specs.AnyDraws.{any_after, any_answer, any_draws}
use Rattle.seed_draws.specs.AnyLaws.{any_below}
use Rattle.seed_draws.specs.Seeded.{SeededState, seeded}
use Rattle.seed_draws.specs.SeededLaws.{seeded_below}
use Rattle.seed_draws.specs.SeededSource.{seeded_draws, seeded_source}
use Rattle.seed_draws.proofs.Asked.{is-source, never-refuses}

pub seeded-source : (seed stream : ℕ) → IsSource (seeded_source seed stream).answers
seeded-source seed stream = is-source seeded_draws seeded_below (seeded seed stream)

-- a seeded source never refuses, in whatever state
pub seeded-never : (s : SeededState) → NeverRefuses (source_of seeded_draws s).answers
seeded-never s =
    never-refuses seeded_draws (λ _. Unit {0}) (record { answered = λ source bound is. refl; stays = λ source bound is. tt }) s tt

pub any-source : (source : AnyDraws) → IsSource (source_of any_draws source).answers
any-source source = is-source any_draws any_below source

-- every kind but a strict tape
abbrev pub IsNoStrictTape : AnyDraws → Type 0
IsNoStrictTape (Seed source) = Unit {0}
IsNoStrictTape (Strict tape) = ⊥
IsNoStrictTape (Loose tape) = Unit {0}

any-answered : (source : AnyDraws) (bound : ℕ) → IsNoStrictTape source → IsOk (any_answer source bound)
any-answered (Seed source) bound is = refl
any-answered (Strict tape) bound is = absurd is
any-answered (Loose tape) bound is = refl

any-stays : (source : AnyDraws) (bound : ℕ) → IsNoStrictTape source → IsNoStrictTape (any_after source bound)
any-stays (Seed source) bound is = tt
any-stays (Strict tape) bound is = is
any-stays (Loose tape) bound is = tt

-- such a source never refuses, in whatever state
pub any-never : (source : AnyDraws) → IsNoStrictTape source → NeverRefuses (source_of any_draws source).answers
any-never source is = never-refuses any_draws IsNoStrictTape (record { answered = any-answered; stays = any-stays }) source is
