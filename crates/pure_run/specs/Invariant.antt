-- The core invariant: what is true of every core.
use Rattle.std.specs.Prelude.{◌≡◌, ℕ, ◌-◌, ◌≤◌, Bool, List, [], ◌∷◌, ◌++◌, length, map, slice_get, slice_index, slice_index_or, Option, None, Some, IsTrue, if◌then◌else◌}
use Rattle.std.specs.List.{count_by, list_any}
use Rattle.seed_draws.specs.declared.draws.Draws.{Ghosts}
use Rattle.seed_draws.specs.Answers.{after_bounds}
use Rattle.test_world.specs.declared.monitor.Monitor.{Monitor}
use Rattle.test_world.specs.declared.monitor.Monitor.TheVariants.{CellEnd}
use Rattle.test_world.specs.World.{new_world, is_enabled, reply}
use Rattle.walk_rules.specs.declared.picked.Picked.{Picked}
use Rattle.walk_rules.specs.declared.picked.Picked.TheVariants as picked
use Rattle.walk_rules.specs.declared.seen.Seen.{Seen}
use Rattle.walk_rules.specs.Seen.{is_able, seen_of}
use Rattle.walk_rules.specs.State.{WalkState}
use Rattle.walk_rules.specs.Strategies.{counts_down}
use Rattle.walk_rules.specs.Walk.{after_pick}
use Rattle.run_rules.specs.declared.entry.Entry.{Entry}
use Rattle.run_rules.specs.declared.verdict.Verdict.{Verdict}
use Rattle.run_rules.specs.RuleChoice.{choice, choices, selected_asked, other_asked, pick_at, walk_at}
use Rattle.run_rules.specs.MonitorFailures.{first_failing}
use Rattle.run_rules.specs.StepwisePicks.{WereAnswered}
use Rattle.run_rules.specs.EventsMade.{events_made}
use Rattle.run_rules.specs.Position.{Position, earlier, position_at, seen_at, world_at}
use Rattle.run_rules.specs.Run.{GoesOn}
use Rattle.run_rules.specs.Setup.{Setup, IsValid}
use Rattle.run_rules.specs.Verdict.{verdict_at}
use Rattle.pure_run.specs.declared.next.Next.{Next}
use Rattle.pure_run.specs.declared.next.Next.TheVariants.{Due, Granted, Stopped}
use Rattle.pure_run.specs.declared.running.Running.{Running}
use Rattle.pure_run.specs.declared.word.Word.TheVariants as word
use Rattle.pure_run.specs.Core.{CoreState, is_due, position, setup_by}
use Rattle.pure_run.specs.Decision.{is_drawn_at}

-- an entry stands at a place of its position: its event is its thread's word there, is enabled, and has the world's reply
pub record IsKeptEntry (setup : Setup) (x : Position) (entry : Entry) : Type 0 where
  pub said : slice_index_or x.words entry.thread None ≡ Some entry.event
  pub enabled : IsTrue (is_enabled (world_at setup x) entry.event)
  pub replied : entry.reply ≡ reply (world_at setup x) entry.thread entry.event

-- what is true of the journal and the words of a core
pub record IsKept {S O : Type 0} (setup : Setup) (core : CoreState S O) : Type 0 where
  pub valid : IsValid setup
  pub each : length core.words ≡ setup.threads
  pub short : length core.journal ≤ setup.max_steps
  pub entries : (k : ℕ) (entry : Entry) → slice_get core.journal k ≡ Some entry
      → IsKeptEntry setup (position_at (position core) k) entry
  pub going : GoesOn setup (position core)
  pub last_due : (entry : Entry) (thread : ℕ) → slice_get core.journal (length core.journal - 1) ≡ Some entry
      → slice_get core.words thread ≡ Some word.Due → thread ≡ entry.thread

-- what comes next at a position
abbrev pub next_by : Option Verdict → Picked → Next
next_by (Some verdict) chosen = Stopped verdict
next_by None (picked.Grant thread forced) = Granted (record { thread = thread; forced = forced })
next_by None (picked.Stop fault) = Due

-- what comes next: a word while one is due, else what the position decides
abbrev pub next_in : {S O : Type 0} → Setup → CoreState S O → Next
next_in setup core =
    if list_any is_due core.words then Due
    else next_by (verdict_at setup (position core)) (choice setup (position core))

-- the positions at which draws were asked for
abbrev pub drawn_by : Bool → Position → List Position
drawn_by drawn x = if drawn then earlier x ++ x ∷ [] else earlier x

-- the running walk: as it is when the position is reached, and after the pick where draws were asked for
abbrev pub walk_by : Setup → Position → Bool → WalkState
walk_by setup x drawn = if drawn then after_pick (walk_at setup x) (pick_at setup x) else walk_at setup x

-- where the rule takes selected events from the numbers left, no thread made more than counted
abbrev pub AreMadeAsCounted : Setup → List Entry → Type 0
AreMadeAsCounted setup journal =
    IsTrue (counts_down setup.rule) → (thread : ℕ) → events_made setup.selection journal thread ≤ slice_index setup.counts thread

-- the thread that is granted a step is able
abbrev pub IsAbleNext : List Seen → Next → Type 0
IsAbleNext view (Granted grant) = IsTrue (is_able (seen_of view grant.thread))
IsAbleNext view _ = Unit {0}

-- where a monitor failed so far; one of a cell is looked at when the run is over
abbrev pub failed_so_far : Setup → List Entry → Monitor → Option ℕ
failed_so_far setup journal (CellEnd cell value) = None
failed_so_far setup journal monitor = first_failing (new_world setup.size) journal monitor

-- the running parts are those that the journal and the words define, where draws were asked for at the position or not
pub record AreParts {S O : Type 0} (selected_draws : Ghosts S) (other_draws : Ghosts O) (setup : Setup)
    (core : CoreState S O) (drawn : Bool) (running : Running S O) : Type 0 where
  pub world : running.world ≡ world_at setup (position core)
  pub due : running.due ≡ count_by is_due core.words
  pub view : running.view ≡ seen_at setup (position core)
  pub walk : running.walk ≡ walk_by setup (position core) drawn
  pub made : AreMadeAsCounted setup core.journal
  pub selected : running.selected
      ≡ after_bounds selected_draws core.opening.selected (selected_asked setup (drawn_by drawn (position core)))
  pub other : running.other
      ≡ after_bounds other_draws core.opening.other (other_asked setup (drawn_by drawn (position core)))
  pub answered : WereAnswered (choices setup.rule) setup (earlier (position core))
  pub failed : running.failed.items ≡ map (failed_so_far setup core.journal) setup.monitors

-- and what comes next is what they decide
pub record IsRunning {S O : Type 0} (selected_draws : Ghosts S) (other_draws : Ghosts O)
    (core : CoreState S O) (running : Running S O) : Type 0 where
  pub parts : AreParts selected_draws other_draws (setup_by selected_draws other_draws core) core (is_drawn_at running.next) running
  pub next : running.next ≡ next_in (setup_by selected_draws other_draws core) core
  pub able : IsAbleNext running.view running.next

-- a core as it is seen, with its running parts
pub record IsCore {S O : Type 0} (selected_draws : Ghosts S) (other_draws : Ghosts O)
    (core : CoreState S O) (running : Running S O) : Type 0 where
  pub kept : IsKept (setup_by selected_draws other_draws core) core
  pub decided : IsRunning selected_draws other_draws core running
