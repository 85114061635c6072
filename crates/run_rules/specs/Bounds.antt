-- The bounds that are asked of a source at positions, and its answers.
use Rattle.std.specs.Prelude.{ℕ, Result, List, flat_map}
use Rattle.seed_draws.specs.declared.draw_fault.DrawFault.{DrawFault}
use Rattle.seed_draws.specs.Answers.{Answering, answers_after}
use Rattle.run_rules.specs.Position.{Position, earlier}

-- the bounds that are asked at some positions
abbrev pub bounds_over : (Position → List ℕ) → List Position → List ℕ
bounds_over bounds_at xs = flat_map bounds_at xs

-- what a source answers at a position: its answers to the bounds there, after those at each position before it
abbrev pub answers_at : Answering → (Position → List ℕ) → Position → Result (List ℕ) DrawFault
answers_at answering bounds_at x = answers_after answering (bounds_over bounds_at (earlier x)) (bounds_at x)
