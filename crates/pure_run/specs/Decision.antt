-- One decision from the running parts of a core.
use Rattle.std.specs.Prelude.{◌≡◌, ℕ, ◌==◌, ◌<◌, ◌≤◌, ltb, Bool, true, false, List, [], ◌∷◌, length, map, Option, None, Some, IfSome, is_some, option_map, if◌then◌else◌}
use Rattle.std.specs.List.{count_by, list_any}
use Rattle.surw_base.specs.declared.limits.TheConstants.{STEPS, THREADS}
use Rattle.event_class.specs.declared.event.Event.{Event}
use Rattle.seed_draws.specs.declared.draws.Draws.{Ghosts}
use Rattle.walk_rules.specs.declared.picked.Picked.{Picked}
use Rattle.walk_rules.specs.declared.picked.Picked.TheVariants as picked
use Rattle.walk_rules.specs.Seen.{is_announcing, able_threads}
use Rattle.walk_rules.specs.State.{WalkState}
use Rattle.walk_rules.specs.Strategies.{asked_at, asked_list, pick_from}
use Rattle.walk_rules.specs.Strategy.{OnePick}
use Rattle.walk_rules.specs.Walk.{after_pick, wrong_of, AreChosenUnder, NoOtherIsWrong}
use Rattle.run_rules.specs.declared.verdict.Verdict.{Verdict}
use Rattle.run_rules.specs.declared.verdict.Verdict.TheVariants.{Ended, Deadlock, WrongCount, Draw, StepLimit}
use Rattle.run_rules.specs.Run.{is_drawn}
use Rattle.run_rules.specs.Verdict.{first_of, left_over, other_than_asked}
use Rattle.pure_run.specs.declared.next.Next.{Next}
use Rattle.pure_run.specs.declared.next.Next.TheVariants.{Due, Granted, Stopped}
use Rattle.pure_run.specs.declared.running.Running.{Running}
use Rattle.pure_run.specs.Core.{CoreState, last_thread, last_word}

-- whether draws were asked for
abbrev pub is_drawn_at : Next → Bool
is_drawn_at Due = false
is_drawn_at (Granted grant) = true
is_drawn_at (Stopped verdict) = is_drawn (Some verdict)

-- what the strategy picks by the running parts
abbrev pub pick_by : {S O : Type 0} → Ghosts S → Ghosts O → Running S O → OnePick
pick_by selected_draws other_draws running = pick_from selected_draws other_draws running.walk running.view running.selected running.other

-- a pick as what comes next
abbrev pub next_picked : ℕ → Picked → Next
next_picked step (picked.Grant thread forced) = Granted (record { thread = thread; forced = forced })
next_picked step (picked.Stop fault) = Stopped (Draw step fault)

-- what a decision is made of: what is seen is of the core's words, no thread but that of the last step is wrong, no
-- grant waits, and there is room for the step
pub record IsDecidable {S O : Type 0} (core : CoreState S O) (running : Running S O) : Type 0 where
  pub each : length running.view ≡ length running.walk.counts
  pub words : length core.words ≡ length running.view
  pub few : length core.words ≤ THREADS
  pub seen : list_any is_announcing running.view ≡ list_any is_some (map last_word core.words)
  pub last : IfSome (last_thread core.journal) (λ thread. thread < length running.view)
  pub right : IfSome (last_thread core.journal) (NoOtherIsWrong running.walk running.view)
  pub step : length core.journal ≡ running.walk.steps
  pub short : length core.journal ≤ core.opening.max_steps
  pub most : core.opening.max_steps ≤ STEPS
  pub free : running.walk.waiting ≡ None
  pub chosen : AreChosenUnder running.walk.rule running.view

-- a wrong count as a verdict
abbrev pub wrong_verdict : ℕ → ℕ × ℕ × ℕ → Verdict
wrong_verdict step wrong = WrongCount step wrong.0 wrong.1 wrong.2

-- why the run stops at a step before a draw is asked for, by the last words and the running parts
abbrev pub stop_by : {S O : Type 0} → ℕ → ℕ → List (Option Event) → Running S O → Option Verdict
stop_by step max_steps words running =
    first_of
    (other_than_asked step words running.view (asked_at running.walk.rule step)
    ∷ option_map (wrong_verdict step) (wrong_of running.walk running.view)
    ∷ (if count_by is_announcing running.view == 0 then Some Ended else None)
    ∷ (if step == max_steps then Some (StepLimit step) else None)
    ∷ (if length (able_threads running.view) == 0 then Some (Deadlock step) else None)
    ∷ left_over step words (asked_list running.walk.rule)
    ∷ [])

abbrev pub stop_at : {S O : Type 0} → CoreState S O → Running S O → Option Verdict
stop_at core running = stop_by (length core.journal) core.opening.max_steps (map last_word core.words) running

-- a verdict stops the run; else it goes on
abbrev pub stopped_or : Option Verdict → Next → Next
stopped_or None next = next
stopped_or (Some verdict) next = Stopped verdict

-- the causes to stop, then the pick
abbrev pub next_after : {S O : Type 0} → CoreState S O → Running S O → Picked → Next
next_after core running chosen = stopped_or (stop_at core running) (next_picked (length core.journal) chosen)

-- a word while some are due
abbrev pub decision : {S O : Type 0} → Ghosts S → Ghosts O → CoreState S O → Running S O → Next
decision selected_draws other_draws core running =
    if ltb 0 running.due then Due else next_after core running (pick_by selected_draws other_draws running).picked

-- the bounds that are asked of a source for it
abbrev pub bounds_by : Bool → List ℕ → List ℕ
bounds_by drawn bounds = if drawn then bounds else []

-- the walk after it
abbrev pub walk_then : Bool → OnePick → WalkState → WalkState
walk_then drawn one walk = if drawn then after_pick walk one else walk
