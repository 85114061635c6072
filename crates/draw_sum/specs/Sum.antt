-- Sums of draws from a seed.
use Rattle.std.specs.Prelude.{ℕ, zero, suc, Result, Ok, Err}
use Rattle.surw_base.specs.Number.{wrapping_sum}
use Rattle.seed_draws.specs.declared.draw_fault.DrawFault.{DrawFault}
use Rattle.seed_draws.specs.Seeded.{SeededState, seeded_answer, seeded_after}

-- a draw, and 0 where there is none
abbrev pub draw_or_none : Result ℕ DrawFault → ℕ
draw_or_none (Ok draw) = draw
draw_or_none (Err fault) = 0

-- a source after so many draws below a bound
unfoldable pub source_after : SeededState → ℕ → ℕ → SeededState
source_after source bound zero = source
source_after source bound (suc count) = seeded_after (source_after source bound count) bound

-- the sum of so many draws below a bound, modulo 2^64
unfoldable pub sum_of : SeededState → ℕ → ℕ → ℕ
sum_of source bound zero = 0
sum_of source bound (suc count) =
    wrapping_sum (sum_of source bound count) (draw_or_none (seeded_answer (source_after source bound count) bound))
