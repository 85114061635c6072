-- Seeded sources as sources of draws.
use Rattle.std.specs.Prelude.{ℕ}
use Rattle.seed_draws.specs.declared.draws.Draws.{Ghosts}
use Rattle.seed_draws.specs.Answers.{Source, source_of}
use Rattle.seed_draws.specs.Seeded.{SeededState, is_same_seeded, seeded, seeded_after, seeded_answer}

-- how a seeded source draws
abbrev pub seeded_draws : Ghosts SeededState
seeded_draws = record { answer = seeded_answer; after_answer = seeded_after; bent_draws = λ s. s.bent; counts_as_one = is_same_seeded }

-- the source of a seed and a stream, of which nothing was taken
abbrev pub seeded_source : ℕ → ℕ → Source
seeded_source seed stream = source_of seeded_draws (seeded seed stream)
