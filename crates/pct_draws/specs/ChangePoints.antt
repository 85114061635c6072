-- What is asked for the change points of PCT.
use Rattle.std.specs.Prelude.{ℕ, ◌-◌, ◌≤◌, ◌==◌, List, [], replicate, if◌then◌else◌}
use Rattle.surw_base.specs.declared.limits.TheConstants.{DEPTH}

-- the depth is one more than there are change points
abbrev pub IsWithinDepth : ℕ → Type 0
IsWithinDepth depth = (1 ≤ depth) × (depth ≤ DEPTH)

-- what is asked for the change points: nothing where there are no events
abbrev pub change_bounds : ℕ → ℕ → List ℕ
change_bounds depth events = if events == 0 then [] else replicate (depth - 1) events
