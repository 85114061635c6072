-- The scenario that a number makes.
use Rattle.std.specs.Prelude.{ℕ, ◌+◌, ◌*◌, ◌%◌, List, [], ◌∷◌, None, Some, map}
use Rattle.std.specs.List.{range_with_len}
use Rattle.surw_base.specs.declared.limits.TheConstants.{STEPS, THREADS}
use Rattle.event_class.specs.declared.pickable.Pickable.TheVariants.{CellNo}
use Rattle.routine_kit.specs.declared.any_routine.AnyRoutine.{AnyRoutine}
use Rattle.routine_kit.specs.declared.any_routine.AnyRoutine.TheVariants as routine
use Rattle.routine_kit.specs.declared.line.Line.{Line}
use Rattle.routine_kit.specs.declared.line.Line.TheVariants.{Act, Plus}
use Rattle.routine_kit.specs.declared.operand.Operand.TheVariants.{Num, Reg}
use Rattle.routine_kit.specs.declared.shape.Shape.TheVariants.{Load, Store, Add}
use Rattle.routine_kit.specs.Steps.{new_steps}
use Rattle.test_world.specs.declared.size.WorldSize.{WorldSize}
use Rattle.scenario_toml.specs.declared.counts_rule.CountsRule.TheVariants.{Profile}
use Rattle.scenario_toml.specs.declared.made.TheConstants.{MADE_CELLS, MADE_DEPTH, MADE_TIMES}
use Rattle.scenario_toml.specs.declared.strategy.Strategy.TheVariants.{Surw}
use Rattle.scenario_toml.specs.State.{ScenarioState}

-- the cell that a thread loads and stores
abbrev pub load_cell : ℕ → ℕ → ℕ
load_cell number thread = (number + thread) % MADE_CELLS

-- the cell that it adds to
abbrev pub add_cell : ℕ → ℕ → ℕ
add_cell number thread = (number + 3 * thread) % MADE_CELLS

-- its lines: they add one to the first cell by a load and a store, and to the second in one event
abbrev pub made_lines : ℕ → ℕ → List Line
made_lines number thread =
    Act (Load (Num (load_cell number thread))) (Some 0)
    ∷ Plus 0 (Num 1)
    ∷ Act (Store (Num (load_cell number thread)) (Reg 0)) None
    ∷ Act (Add (Num (add_cell number thread)) (Num 1)) None
    ∷ []

-- its routine
abbrev pub made_routine : ℕ → ℕ → AnyRoutine
made_routine number thread = routine.Steps (new_steps (made_lines number thread) MADE_TIMES)

-- the routines of so many threads
unfoldable pub made_routines : ℕ → ℕ → List AnyRoutine
made_routines number threads = map (made_routine number) (range_with_len 0 threads)

-- a world of cells and nothing else
abbrev pub made_size : WorldSize
made_size = record { cells = MADE_CELLS; locks = 0; frames = 0; pages = 0; slots = 0 }

-- the scenario
abbrev pub made : ℕ → ScenarioState
made number = record {
  strategy = Surw;
  seed = number;
  depth = MADE_DEPTH;
  max_steps = STEPS;
  select = CellNo 0 ∷ [];
  counts = Profile;
  monitors = [];
  size = made_size;
  tapes = None;
  routines = made_routines number THREADS;
}
