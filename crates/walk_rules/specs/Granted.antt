-- A pick by one draw.
use Rattle.std.specs.Prelude.{ℕ, Result, List, Ok, Err, slice_index, false}
use Rattle.seed_draws.specs.declared.draw_fault.DrawFault.{DrawFault}
use Rattle.walk_rules.specs.declared.picked.Picked.{Picked}
use Rattle.walk_rules.specs.declared.picked.Picked.TheVariants.{Grant, Stop}

-- the thread of the draw is granted a step that isn't forced; a refusal stops
abbrev pub granted_at : (ℕ → ℕ) → Result (List ℕ) DrawFault → Picked
granted_at thread_of (Ok draws) = Grant (thread_of (slice_index draws 0)) false
granted_at thread_of (Err fault) = Stop fault
