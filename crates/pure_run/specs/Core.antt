-- What a core is seen as, and what it decides.
use Rattle.std.specs.Prelude.{◌≡◌, ℕ, ◌-◌, Bool, true, false, List, [], ◌∷◌, ◌++◌, length, map, replicate, slice_get, slice_set, slice_index_or, Option, None, Some, is_some, IsTrue, IsSomeAnd, if◌then◌else◌}
use Rattle.std.specs.List.{list_any}
use Rattle.std.specs.Option.{option_map}
use Rattle.event_class.specs.declared.event.Event.{Event}
use Rattle.seed_draws.specs.declared.draws.Draws.{Ghosts}
use Rattle.seed_draws.specs.Answers.{source_of}
use Rattle.test_world.specs.World.{is_enabled, reply}
use Rattle.walk_rules.specs.declared.picked.Picked.{Picked}
use Rattle.walk_rules.specs.declared.picked.Picked.TheVariants.{Grant, Stop}
use Rattle.run_rules.specs.declared.entry.Entry.{Entry}
use Rattle.run_rules.specs.declared.verdict.Verdict.{Verdict}
use Rattle.run_rules.specs.RuleChoice.{choice}
use Rattle.run_rules.specs.Position.{Position, world_at}
use Rattle.run_rules.specs.Setup.{Setup}
use Rattle.run_rules.specs.Verdict.{verdict_at}
use Rattle.pure_run.specs.declared.word.Word.{Word}
use Rattle.pure_run.specs.declared.word.Word.TheVariants.{Due, Said}
use Rattle.pure_run.specs.Opening.{OpeningState, setup_in}

-- what it is opened with, the journal, and what each thread has said since its last step
pub record CoreState (S O : Type 0) : Type 0 where
  pub opening : OpeningState S O
  pub journal : List Entry
  pub words : List Word

-- a core as it is opened: no thread has said anything
abbrev pub new_core : {S O : Type 0} → OpeningState S O → CoreState S O
new_core opening = record { opening = opening; journal = []; words = replicate opening.threads Due }

-- a core after a thread has said its word
abbrev pub after_word : {S O : Type 0} → CoreState S O → ℕ → Option Event → CoreState S O
after_word core thread event = record core { words = slice_set core.words thread (Said event) }

-- a core before a thread said its word
abbrev pub before_word : {S O : Type 0} → CoreState S O → ℕ → CoreState S O
before_word core thread = record core { words = slice_set core.words thread Due }

-- a core after an entry, whose thread has to say its word
abbrev pub after_entry : {S O : Type 0} → CoreState S O → Entry → CoreState S O
after_entry core entry = record core { journal = core.journal ++ entry ∷ []; words = slice_set core.words entry.thread Due }

-- the thread that made the last step
abbrev pub last_thread : List Entry → Option ℕ
last_thread journal = option_map (λ entry. entry.thread) (slice_get journal (length journal - 1))

-- whether a word is due
abbrev pub is_due : Word → Bool
is_due Due = true
is_due (Said event) = false

-- the last word of a thread: one whose word is due has none
abbrev pub last_word : Word → Option Event
last_word Due = None
last_word (Said event) = event

-- the position of a core: its journal and what the threads have said
abbrev pub position : {S O : Type 0} → CoreState S O → Position
position core = record { journal = core.journal; words = map last_word core.words }

-- the setup of a core: its two sources are known by what they answered when it was opened
abbrev pub setup_by : {S O : Type 0} → Ghosts S → Ghosts O → CoreState S O → Setup
setup_by selected_draws other_draws core =
    setup_in (source_of selected_draws core.opening.selected) (source_of other_draws core.opening.other) core.opening

-- the verdict of a core: none while a word is due
abbrev pub verdict_of : {S O : Type 0} → Setup → CoreState S O → Option Verdict
verdict_of setup core = if list_any is_due core.words then None else verdict_at setup (position core)

-- the thread that a choice grants a step
abbrev pub thread_of : Picked → Option ℕ
thread_of (Grant thread forced) = Some thread
thread_of (Stop fault) = None

-- the thread that a core grants a step: none while a word is due, and where there is a verdict
abbrev pub granted_of : {S O : Type 0} → Setup → CoreState S O → Option ℕ
granted_of setup core =
    if list_any is_due core.words then None
    else (if is_some (verdict_at setup (position core)) then None else thread_of (choice setup (position core)))

-- a thread announces an event that is enabled
abbrev pub IsAble : {S O : Type 0} → Setup → CoreState S O → ℕ → Type 0
IsAble setup core thread =
    IsSomeAnd (slice_index_or (position core).words thread None) (λ event. IsTrue (is_enabled (world_at setup (position core)) event))

-- the entry of a step of a thread: its event, with the world's reply
abbrev pub step_by : {S O : Type 0} → Setup → CoreState S O → ℕ → Event → Bool → Entry
step_by setup core thread event forced =
    record { thread = thread; event = event; reply = reply (world_at setup (position core)) thread event; forced = forced }

-- an entry is the step that a core grants: no word is due, there is no verdict, the choice is its thread with its mark,
-- its event is what the thread announces and is enabled, and its reply is the world's
pub record IsStep {S O : Type 0} (setup : Setup) (core : CoreState S O) (entry : Entry) : Type 0 where
  pub said : list_any is_due core.words ≡ false
  pub going : verdict_at setup (position core) ≡ None
  pub chosen : choice setup (position core) ≡ Grant entry.thread entry.forced
  pub word : slice_get core.words entry.thread ≡ Some (Said (Some entry.event))
  pub enabled : IsTrue (is_enabled (world_at setup (position core)) entry.event)
  pub replied : entry.reply ≡ reply (world_at setup (position core)) entry.thread entry.event

-- a thread is granted the step of this event with this mark
abbrev pub IsGrantedStep : {S O : Type 0} → Setup → CoreState S O → ℕ → Event → Bool → Type 0
IsGrantedStep setup core thread event forced = IsStep setup core (step_by setup core thread event forced)

-- a core makes the step of a thread with this reply, and is then the next one
pub record IsStepTo {S O : Type 0} (setup : Setup) (core : CoreState S O) (thread replied : ℕ) (next : CoreState S O) : Type 0 where
  pub event : Event
  pub forced : Bool
  pub step : IsStep setup core (record { thread = thread; event = event; reply = replied; forced = forced })
  pub after : next ≡ after_entry core (record { thread = thread; event = event; reply = replied; forced = forced })
