-- Tapes as sources of draws.
use Rattle.std.specs.Prelude.{ℕ, List}
use Rattle.seed_draws.specs.declared.draws.Draws.{Ghosts}
use Rattle.seed_draws.specs.Answers.{Source, source_of}
use Rattle.seed_draws.specs.Tape.{Tape, is_same_tape, loose_after, loose_answer, strict_after, strict_answer}

-- how a strict tape draws
abbrev pub strict_draws : Ghosts Tape
strict_draws = record { answer = strict_answer; after_answer = strict_after; bent_draws = λ tape. 0; counts_as_one = is_same_tape }

-- and a loose one
abbrev pub loose_draws : Ghosts Tape
loose_draws = record { answer = loose_answer; after_answer = loose_after; bent_draws = λ tape. 0; counts_as_one = is_same_tape }

-- a strict tape of which nothing was taken
abbrev pub strict_tape : List ℕ → Source
strict_tape entries = source_of strict_draws (record { entries = entries; taken = 0 })

-- and a loose one
abbrev pub loose_tape : List ℕ → Source
loose_tape entries = source_of loose_draws (record { entries = entries; taken = 0 })
