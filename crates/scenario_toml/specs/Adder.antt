-- A thread that adds one to a cell.
use Rattle.std.specs.Prelude.{List, ℕ, ◌-◌, [], ◌∷◌, None, Some, Result, Ok, codes}
use Rattle.surw_base.specs.declared.limits.TheConstants.{CELLS, TIMES}
use Rattle.toml.specs.Data.{Members}
use Rattle.routine_kit.specs.declared.any_routine.AnyRoutine.{AnyRoutine}
use Rattle.routine_kit.specs.declared.any_routine.AnyRoutine.TheVariants as routine
use Rattle.routine_kit.specs.Adder.{new_adder}
use Rattle.scenario_toml.specs.declared.fault.ScenarioFault.{ScenarioFault}
use Rattle.scenario_toml.specs.Faults.{and_then}
use Rattle.scenario_toml.specs.Keys.{NumberRule, rule}
use Rattle.scenario_toml.specs.Values.{number_in, only}

-- the cell
abbrev pub cell : NumberRule
cell = rule (codes "cell") 0 (CELLS - 1) None

-- how often it tries
abbrev pub tries : NumberRule
tries = rule (codes "tries") 1 TIMES (Some 1)

-- the keys in their order
unfoldable pub adder_in : List ℕ → Members → Result AnyRoutine ScenarioFault
adder_in path table =
    and_then (only path (codes "kind" ∷ codes "cell" ∷ codes "tries" ∷ []) table) (λ _.
    and_then (number_in path table cell) (λ cell.
    and_then (number_in path table tries) (λ tries.
    Ok (routine.Adder (new_adder cell tries)))))
