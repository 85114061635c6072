-- The tables of `thread`.
use Rattle.std.specs.Prelude.{List, ℕ, [], ◌∷◌, ◌++◌, Option, None, Some, Result, Ok, codes}
use Rattle.std.specs.List.{find}
use Rattle.std.specs.Str.{bytes_eq}
use Rattle.toml.specs.Data.{Data, Items, Members, as_table}
use Rattle.routine_kit.specs.declared.any_routine.AnyRoutine.{AnyRoutine}
use Rattle.scenario_toml.specs.declared.fault.ScenarioFault.{ScenarioFault}
use Rattle.scenario_toml.specs.Adder.{adder_in}
use Rattle.scenario_toml.specs.CacheUser.{cache_user_in}
use Rattle.scenario_toml.specs.Faults.{and_then}
use Rattle.scenario_toml.specs.Flusher.{flusher_in}
use Rattle.scenario_toml.specs.Keys.{key_at}
use Rattle.scenario_toml.specs.LogWriter.{log_writer_in}
use Rattle.scenario_toml.specs.Steps.{steps_in}
use Rattle.scenario_toml.specs.Values.{each, meant, of_kind, text_in}

-- a kind of thread: its name, and the routine of a table of it, where the path stands before the names of its keys
pub record Kind : Type 0 where
  pub name : List ℕ
  pub routine : List ℕ → Members → Result AnyRoutine ScenarioFault

-- the kinds, one line each
abbrev pub kinds : List Kind
kinds =
    record { name = codes "steps"; routine = steps_in }
    ∷ record { name = codes "adder"; routine = adder_in }
    ∷ record { name = codes "cache_user"; routine = cache_user_in }
    ∷ record { name = codes "flusher"; routine = flusher_in }
    ∷ record { name = codes "log_writer"; routine = log_writer_in }
    ∷ []

-- the kind of this name
abbrev pub kind_of : List ℕ → Option Kind
kind_of text = find (λ kind. bytes_eq kind.name text) kinds

-- the kind, which has to be named, then a key that isn't one of it, then its keys in their order
unfoldable pub routine_in : List ℕ → Members → Result AnyRoutine ScenarioFault
routine_in path table =
    and_then (text_in path table (codes "kind")) (λ text.
    and_then (meant (path ++ codes "kind") text (kind_of text)) (λ kind.
    kind.routine path table))

-- a table of the array
abbrev pub thread_item : List ℕ → ℕ → Data → Result AnyRoutine ScenarioFault
thread_item key place d = and_then (of_kind (key_at key place) (as_table d)) (routine_in (key_at key place ++ codes "."))

-- the threads in order, and none where there is no array
abbrev pub threads : Option Items → Result (List AnyRoutine) ScenarioFault
threads None = Ok []
threads (Some ds) = each (thread_item (codes "thread")) 0 ds
