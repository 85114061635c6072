-- A thread that logs a value and writes it to a page.
use Rattle.std.specs.Prelude.{List, ℕ, [], ◌∷◌, None, Result, Ok, codes}
use Rattle.toml.specs.Data.{Members}
use Rattle.routine_kit.specs.declared.any_routine.AnyRoutine.{AnyRoutine}
use Rattle.routine_kit.specs.declared.any_routine.AnyRoutine.TheVariants as routine
use Rattle.routine_kit.specs.LogWriter.{new_log_writer}
use Rattle.scenario_toml.specs.declared.fault.ScenarioFault.{ScenarioFault}
use Rattle.scenario_toml.specs.Faults.{and_then}
use Rattle.scenario_toml.specs.Keys.{NumberRule, greatest, page, rule}
use Rattle.scenario_toml.specs.Values.{number_in, only}

-- the value
abbrev pub value : NumberRule
value = rule (codes "value") 0 greatest None

-- the keys in their order
unfoldable pub log_writer_in : List ℕ → Members → Result AnyRoutine ScenarioFault
log_writer_in path table =
    and_then (only path (codes "kind" ∷ codes "page" ∷ codes "value" ∷ []) table) (λ _.
    and_then (number_in path table page) (λ page.
    and_then (number_in path table value) (λ value.
    Ok (routine.LogWriter (new_log_writer page value)))))
