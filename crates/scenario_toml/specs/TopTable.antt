-- The top table.
use Rattle.std.specs.Prelude.{List, ℕ, [], ◌∷◌, Option, None, Some, Result, Ok, codes}
use Rattle.surw_base.specs.declared.limits.TheConstants.{THREADS, MONITORS}
use Rattle.toml.specs.Data.{Data, Items, Members, as_str, as_table, get_member}
use Rattle.event_class.specs.declared.pickable.Pickable.{Pickable}
use Rattle.event_class.specs.Pickable.{pickable_of}
use Rattle.event_class.specs.declared.pickable.Pickable.TheVariants.{Every}
use Rattle.scenario_toml.specs.declared.keys.TheConstants.{PICKABLES}
use Rattle.scenario_toml.specs.declared.fault.ScenarioFault.{ScenarioFault}
use Rattle.scenario_toml.specs.declared.strategy.Strategy.{Strategy}
use Rattle.scenario_toml.specs.declared.strategy.Strategy.TheVariants.{Surw}
use Rattle.scenario_toml.specs.declared.watch.Watch.{Watch}
use Rattle.scenario_toml.specs.Counts.{counts}
use Rattle.scenario_toml.specs.Faults.{and_then}
use Rattle.scenario_toml.specs.Keys.{max_steps, seed, depth}
use Rattle.scenario_toml.specs.Monitors.{watch_item}
use Rattle.scenario_toml.specs.Values.{array, list_or, meant, number_in, of_kind, text_item}
use Rattle.scenario_toml.specs.Texts.{strategy_of}

-- the keys of the top table
abbrev pub top_names : List (List ℕ)
top_names =
    codes "max_steps" ∷ codes "strategy" ∷ codes "seed" ∷ codes "depth" ∷ codes "select" ∷ codes "counts" ∷ codes "monitors"
    ∷ codes "world" ∷ codes "tapes" ∷ codes "thread" ∷ []

-- its numbers and words
pub record Settings : Type 0 where
  pub max_steps : ℕ
  pub strategy : Strategy
  pub seed : ℕ
  pub depth : ℕ

-- the strategy is SURW where none is named
abbrev pub strategy_in : Option Data → Result Strategy ScenarioFault
strategy_in None = Ok Surw
strategy_in (Some d) = and_then (of_kind (codes "strategy") (as_str d)) (λ text. meant (codes "strategy") text (strategy_of text))

-- in their order
unfoldable pub settings : Members → Result Settings ScenarioFault
settings table =
    and_then (number_in [] table max_steps) (λ max_steps.
    and_then (strategy_in (get_member (codes "strategy") table)) (λ strategy.
    and_then (number_in [] table seed) (λ seed.
    and_then (number_in [] table depth) (λ depth.
    Ok (record { max_steps = max_steps; strategy = strategy; seed = seed; depth = depth })))))

-- its lists
pub record Lists : Type 0 where
  pub select : List Pickable
  pub counts : Option (List ℕ)
  pub watches : List Watch

-- an item of `select`
abbrev pub select_item : List ℕ → ℕ → Data → Result Pickable ScenarioFault
select_item = text_item pickable_of

-- what is selected, and every event where the file doesn't say
abbrev pub select_in : Members → Result (List Pickable) ScenarioFault
select_in table = list_or (Every ∷ []) select_item (codes "select") PICKABLES (get_member (codes "select") table)

-- what is watched for
abbrev pub watches_in : Members → Result (List Watch) ScenarioFault
watches_in table = list_or [] watch_item (codes "monitors") MONITORS (get_member (codes "monitors") table)

-- in their order
unfoldable pub lists : Members → Result Lists ScenarioFault
lists table =
    and_then (select_in table) (λ select.
    and_then (counts (get_member (codes "counts") table)) (λ counts.
    and_then (watches_in table) (λ watches.
    Ok (record { select = select; counts = counts; watches = watches }))))

-- its tables, by their kind alone, and the array of threads with its length
pub record Parts : Type 0 where
  pub world : Option Members
  pub tapes : Option Members
  pub threads : Option Items

-- a table that may be absent
abbrev pub table_or_none : List ℕ → Option Data → Result (Option Members) ScenarioFault
table_or_none key None = Ok None
table_or_none key (Some d) = and_then (of_kind key (as_table d)) (λ table. Ok (Some table))

-- the table of a key
abbrev pub table_in : List ℕ → Members → Result (Option Members) ScenarioFault
table_in key table = table_or_none key (get_member key table)

-- an array that may be absent
abbrev pub array_in : List ℕ → ℕ → Option Data → Result (Option Items) ScenarioFault
array_in key most None = Ok None
array_in key most (Some d) = and_then (array key most d) (λ ds. Ok (Some ds))

-- the array `thread`
abbrev pub threads_in : Members → Result (Option Items) ScenarioFault
threads_in table = array_in (codes "thread") THREADS (get_member (codes "thread") table)

-- in their order
unfoldable pub parts : Members → Result Parts ScenarioFault
parts table =
    and_then (table_in (codes "world") table) (λ world.
    and_then (table_in (codes "tapes") table) (λ tapes.
    and_then (threads_in table) (λ threads.
    Ok (record { world = world; tapes = tapes; threads = threads }))))
