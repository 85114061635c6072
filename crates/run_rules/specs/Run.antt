-- The run of a plan.
use Rattle.std.specs.Prelude.{◌≡◌, ℕ, ◌+◌, min, Bool, true, false, List, [], ◌∷◌, ◌++◌, map, Option, None, Some, IsSome, slice_get, if◌then◌else◌}
use Rattle.surw_base.specs.Number.{greatest}
use Rattle.event_class.specs.declared.event.Event.{Event}
use Rattle.event_class.specs.declared.pickable.Pickable.{Pickable}
use Rattle.test_world.specs.declared.monitor.Monitor.{Monitor}
use Rattle.test_world.specs.World.{WorldState, new_world}
use Rattle.walk_rules.specs.declared.picked.Picked.TheVariants.{Grant}
use Rattle.run_rules.specs.declared.entry.Entry.{Entry}
use Rattle.run_rules.specs.declared.verdict.Verdict.{Verdict}
use Rattle.run_rules.specs.declared.verdict.Verdict.TheVariants.{Draw}
use Rattle.run_rules.specs.LegalJournal.{IsLegal}
use Rattle.run_rules.specs.MonitorFailures.{failed_at}
use Rattle.run_rules.specs.Position.{Position, earlier, position_at, position_of, world_at}
use Rattle.run_rules.specs.RuleChoice.{choice, selected_asked, other_asked}
use Rattle.run_rules.specs.Setup.{Setup, Script}
use Rattle.run_rules.specs.Verdict.{verdict_at}

-- the run goes on at a position, with this entry next
pub record GoesOnWith (setup : Setup) (x : Position) (entry : Entry) : Type 0 where
  pub going : verdict_at setup x ≡ None
  pub chosen : choice setup x ≡ Grant entry.thread entry.forced

-- at each earlier position the run goes on with the entry that stands there
abbrev pub GoesOn : Setup → Position → Type 0
GoesOn setup x = (k : ℕ) (entry : Entry) → slice_get x.journal k ≡ Some entry → GoesOnWith setup (position_at x k) entry

-- the journal is the run of a plan: it is legal, goes on up to its end, and stops there
pub record IsRunJournal (script : Script) (journal : List Entry) : Type 0 where
  pub legal : IsLegal script journal
  pub going : GoesOn script.setup (position_of script journal)
  pub stops : IsSome (verdict_at script.setup (position_of script journal))

-- whether draws are asked for at a position with this verdict: where there is none, and where one was refused
abbrev pub is_drawn : Option Verdict → Bool
is_drawn None = true
is_drawn (Some (Draw step fault)) = true
is_drawn (Some _) = false

-- the positions at which draws were asked for
unfoldable pub positions_of_draws : Setup → Position → List Position
positions_of_draws setup x = earlier x ++ (if is_drawn (verdict_at setup x) then x ∷ [] else [])

-- how many of the draws at some positions were bent
abbrev pub bent_over : Setup → List Position → ℕ
bent_over setup xs = setup.selected.bent (selected_asked setup xs) + setup.other.bent (other_asked setup xs)

-- how many draws were bent by then; it stays at the greatest number
abbrev pub bent_at : Setup → Position → ℕ
bent_at setup x = min (bent_over setup (positions_of_draws setup x)) greatest

-- what a run tells
pub record Outcome : Type 0 where
  pub journal : List Entry
  pub world : WorldState
  pub verdict : Verdict
  pub words : List (Option Event)
  pub bent : ℕ
  pub selection : List Pickable
  pub monitors : List Monitor
  pub failed : List (Option ℕ)

-- this is the outcome of the run of a plan
pub record IsRun (script : Script) (outcome : Outcome) : Type 0 where
  pub run : IsRunJournal script outcome.journal
  pub verdict : verdict_at script.setup (position_of script outcome.journal) ≡ Some outcome.verdict
  pub words : outcome.words ≡ (position_of script outcome.journal).words
  pub world : outcome.world ≡ world_at script.setup (position_of script outcome.journal)
  pub bent : outcome.bent ≡ bent_at script.setup (position_of script outcome.journal)
  pub selection : outcome.selection ≡ script.setup.selection
  pub monitors : outcome.monitors ≡ script.setup.monitors
  pub failed : outcome.failed ≡ map (failed_at (new_world script.setup.size) outcome.journal outcome.verdict) outcome.monitors

-- exactly one journal is the run of a plan
abbrev pub OneRun : Script → Type 0
OneRun script = (journal : List Entry) × IsRunJournal script journal × ((other : List Entry) → IsRunJournal script other → other ≡ journal)

-- the outcome of the run of a plan is one
abbrev pub OneOutcome : Script → Type 0
OneOutcome script = (outcome other : Outcome) → IsRun script outcome → IsRun script other → other ≡ outcome
