-- Seeded sources: draws from the words of a generator.
use Rattle.std.specs.Prelude.{ℕ, zero, suc, ◌+◌, ◌/◌, ◌%◌, ◌-◌, ◌==◌, ◌&&◌, ltb, min, Bool, false, List, position, slice_index, Option, Some, None, Result, Ok, if◌then◌else◌}
use Rattle.rand_core.specs.Steps.{first_words}
use Rattle.rand_pcg.specs.Lcg.{Lcg, started, increment_of}
use Rattle.rand_pcg.specs.Pcg.{pcg64, multiplier_128}
use Rattle.surw_base.specs.Number.{greatest}
use Rattle.seed_draws.specs.declared.draw_fault.DrawFault.{DrawFault}
use Rattle.seed_draws.specs.Share.{share, is_accepted}

-- so many words were taken, fewer than the greatest number; or at least as many, and the generator is this
pub data Progress : Type 0 where
  Counted : ℕ → Progress
  Past : Lcg → Progress

-- a seeded source: the seed and the stream of its generator, how far it is, and how many draws were bent
pub record SeededState : Type 0 where
  pub seed : ℕ
  pub stream : ℕ
  pub progress : Progress
  pub bent : ℕ

-- a source of which nothing was taken
abbrev pub seeded : ℕ → ℕ → SeededState
seeded seed stream = record { seed = seed; stream = stream; progress = Counted 0; bent = 0 }

-- the generator of a seed and a stream, after so many words
unfoldable pub generator_at : ℕ → ℕ → ℕ → Lcg
generator_at seed stream zero = started 128 multiplier_128 seed (increment_of 128 stream)
generator_at seed stream (suc words) = (pcg64 (generator_at seed stream words)).1

-- how far a source is, by the count and the generator
abbrev pub progress_by : ℕ → Lcg → Progress
progress_by words generator = if ltb words greatest then Counted words else Past generator

-- the generator, by how far a source is
abbrev pub generator_in : ℕ → ℕ → Progress → Lcg
generator_in seed stream (Counted words) = generator_at seed stream words
generator_in seed stream (Past generator) = generator

-- the generator of a source
abbrev pub generator_of : SeededState → Lcg
generator_of s = generator_in s.seed s.stream s.progress

-- the next word
abbrev pub word_of : SeededState → ℕ
word_of s = (pcg64 (generator_of s)).0

-- how far a source is after one word more
abbrev pub progress_after : ℕ → ℕ → Progress → Progress
progress_after seed stream (Counted words) = progress_by (words + 1) (generator_at seed stream (suc words))
progress_after seed stream (Past generator) = Past (pcg64 generator).1

-- a source after one word more
abbrev pub after_word : SeededState → SeededState
after_word s = record s { progress = progress_after s.seed s.stream s.progress }

-- a source after so many words more
unfoldable pub after_words : ℕ → SeededState → SeededState
after_words zero s = s
after_words (suc n) s = after_word (after_words n s)

-- a source after one bent draw more, whose count stays at the greatest number
abbrev pub after_bent : SeededState → SeededState
after_bent s = record s { bent = min (s.bent + 1) greatest }

-- how many words a draw looks at
abbrev pub tries : ℕ
tries = 16

-- the words that a draw looks at: those that come next
abbrev pub next_words : SeededState → List ℕ
next_words s = first_words (λ state. (word_of state, after_word state)) tries s

-- what is drawn and the source after it, where the first accepted word has this place, and where none is accepted
abbrev pub drawn_at : ℕ → SeededState → Option ℕ → ℕ × SeededState
drawn_at bound s (Some k) = (slice_index (next_words s) k / share bound, after_words (k + 1) s)
drawn_at bound s None = (slice_index (next_words s) (tries - 1) % bound, after_bent (after_words tries s))

-- what is drawn, and the source after it
unfoldable pub drawn : ℕ → SeededState → ℕ × SeededState
drawn bound s = drawn_at bound s (position (is_accepted bound) (next_words s))

-- the answer to a bound and the source after it: below 1 there is 0 alone, and no word is taken
abbrev pub below_of : ℕ → SeededState → ℕ × SeededState
below_of bound s = if bound == 1 then (0, s) else drawn bound s

-- a seeded source never refuses
abbrev pub seeded_answer : SeededState → ℕ → Result ℕ DrawFault
seeded_answer s bound = Ok (below_of bound s).0

-- and it is this after its answer
abbrev pub seeded_after : SeededState → ℕ → SeededState
seeded_after s bound = (below_of bound s).1

-- whether two are equally far, and their words are counted
abbrev pub is_same_progress : Progress → Progress → Bool
is_same_progress (Counted words) (Counted others) = words == others
is_same_progress _ _ = false

-- whether two sources count as one: they are equal, and their words are counted
abbrev pub is_same_seeded : SeededState → SeededState → Bool
is_same_seeded s other =
    s.seed == other.seed && s.stream == other.stream && s.bent == other.bent && is_same_progress s.progress other.progress
