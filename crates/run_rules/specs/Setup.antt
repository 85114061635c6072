-- What a run is made of.
use Rattle.std.specs.Prelude.{◌≡◌, ℕ, ◌≤◌, List, [], ◌∷◌, All, length, sum, Option, IsTrue}
use Rattle.surw_base.specs.declared.limits.TheConstants.{MONITORS, STEPS, THREADS}
use Rattle.event_class.specs.declared.event.Event.{Event}
use Rattle.event_class.specs.declared.pickable.Pickable.{Pickable}
use Rattle.event_class.specs.declared.pickable.Pickable.TheVariants.{Every}
use Rattle.seed_draws.specs.Answers.{Source}
use Rattle.test_world.specs.declared.monitor.Monitor.{Monitor}
use Rattle.test_world.specs.declared.size.WorldSize.{WorldSize}
use Rattle.test_world.specs.Monitor.{CanWatch}
use Rattle.test_world.specs.Size.{IsWithinLimits}
use Rattle.walk_rules.specs.declared.rule.Rule.{Rule}
use Rattle.walk_rules.specs.Strategies.{wants_every}

-- all but the routines
pub record Setup : Type 0 where
  pub size : WorldSize
  pub threads : ℕ
  pub selection : List Pickable
  pub rule : Rule
  pub counts : List ℕ
  pub selected : Source
  pub other : Source
  pub max_steps : ℕ
  pub monitors : List Monitor

-- with what each thread announces after some replies, from its start
pub record Script : Type 0 where
  pub setup : Setup
  pub says : ℕ → List ℕ → Option Event

-- every event is selected under a rule that wants it so
abbrev pub SelectsAllUnder : Rule → List Pickable → Type 0
SelectsAllUnder rule selection = IsTrue (wants_every rule) → selection ≡ Every ∷ []

-- a setup that a run can be made of
pub record IsValid (setup : Setup) : Type 0 where
  pub limits : IsWithinLimits setup.size
  pub threads : setup.threads ≤ THREADS
  pub counted : length setup.counts ≡ setup.threads
  pub few : sum setup.counts ≤ STEPS
  pub some : 1 ≤ setup.max_steps
  pub most : setup.max_steps ≤ STEPS
  pub monitors : length setup.monitors ≤ MONITORS
  pub watched : All (CanWatch setup.size) setup.monitors
  pub every : SelectsAllUnder setup.rule setup.selection
