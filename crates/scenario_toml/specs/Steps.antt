-- A thread that runs lines.
use Rattle.std.specs.Prelude.{List, ℕ, [], ◌∷◌, ◌++◌, Some, Result, Ok, codes}
use Rattle.surw_base.specs.declared.limits.TheConstants.{LINES, TIMES}
use Rattle.toml.specs.Data.{Data, Members, get_member}
use Rattle.routine_kit.specs.declared.any_routine.AnyRoutine.{AnyRoutine}
use Rattle.routine_kit.specs.declared.any_routine.AnyRoutine.TheVariants as routine
use Rattle.routine_kit.specs.declared.line.Line.{Line}
use Rattle.routine_kit.specs.LineOf.{line_of}
use Rattle.routine_kit.specs.Steps.{new_steps}
use Rattle.scenario_toml.specs.declared.fault.ScenarioFault.{ScenarioFault}
use Rattle.scenario_toml.specs.Faults.{and_then}
use Rattle.scenario_toml.specs.Keys.{NumberRule, rule}
use Rattle.scenario_toml.specs.Values.{list, number_in, only, required, text_item}

-- how often they are run
abbrev pub times : NumberRule
times = rule (codes "times") 1 TIMES (Some 1)

-- a line
abbrev pub line_item : List ℕ → ℕ → Data → Result Line ScenarioFault
line_item = text_item line_of

-- at most `LINES` lines, which have to be there
unfoldable pub lines_in : List ℕ → Members → Result (List Line) ScenarioFault
lines_in path table =
    and_then (required (path ++ codes "lines") (get_member (codes "lines") table)) (list line_item (path ++ codes "lines") LINES)

-- the keys in their order
unfoldable pub steps_in : List ℕ → Members → Result AnyRoutine ScenarioFault
steps_in path table =
    and_then (only path (codes "kind" ∷ codes "lines" ∷ codes "times" ∷ []) table) (λ _.
    and_then (lines_in path table) (λ lines.
    and_then (number_in path table times) (λ times.
    Ok (routine.Steps (new_steps lines times)))))
