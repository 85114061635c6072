-- A thread that writes frames to the disk.
use Rattle.std.specs.Prelude.{List, ℕ, true, [], ◌∷◌, None, Result, Ok, codes}
use Rattle.toml.specs.Data.{Members}
use Rattle.routine_kit.specs.declared.any_routine.AnyRoutine.{AnyRoutine}
use Rattle.routine_kit.specs.declared.any_routine.AnyRoutine.TheVariants as routine
use Rattle.routine_kit.specs.Flusher.{new_flusher}
use Rattle.scenario_toml.specs.declared.fault.ScenarioFault.{ScenarioFault}
use Rattle.scenario_toml.specs.Faults.{and_then}
use Rattle.scenario_toml.specs.Keys.{NumberRule, rule}
use Rattle.scenario_toml.specs.Values.{boolean_in, number_in, only}

-- the rounds, of four events at most, so that those of one thread are no more than a run has steps
abbrev pub rounds : NumberRule
rounds = rule (codes "rounds") 0 16384 None

-- the keys in their order
unfoldable pub flusher_in : List ℕ → Members → Result AnyRoutine ScenarioFault
flusher_in path table =
    and_then (only path (codes "kind" ∷ codes "rounds" ∷ codes "mark_first" ∷ []) table) (λ _.
    and_then (number_in path table rounds) (λ rounds.
    and_then (boolean_in path table (codes "mark_first") true) (λ mark_first.
    Ok (routine.Flusher (new_flusher rounds mark_first)))))
