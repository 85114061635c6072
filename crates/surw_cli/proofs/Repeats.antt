-- The run that follows what was saved of another repeats it.
use Rattle.std.proofs.Common.{◌≡◌, ℕ, ◌+◌, ◌&&◌, ◌<◌, ◌≤◌, cond, List, length, map, take, Option, None, Some, refl, ap, sym, ◌∙◌, inl, inr, arith}
use Rattle.std.proofs.lemmas.Bool.{cases_lt}
use Rattle.std.proofs.lemmas.List.{length-take-le, take-map}
use Rattle.std.proofs.lemmas.Option.{same_Some, slice_get_past}
use Rattle.std.specs.List.{find, range_with_len}
use Rattle.replay_text.proofs.Runs.{text-reads}
use Rattle.replay_text.specs.SavedRun.{SavedRun}
use Rattle.replay_text.specs.SavedText.{saved_text}
use Rattle.routine_kit.specs.declared.any_routine.AnyRoutine.{AnyRoutine}
use Rattle.run_rules.proofs.Prefixes.{IsNext, next-at}
use Rattle.run_rules.proofs.Replays.{replays-repeat}
use Rattle.run_rules.proofs.RunPrefixes.{going-prefixes}
use Rattle.run_rules.proofs.UnforcedJournals.{freed, length-unforced, world-unforced}
use Rattle.run_rules.proofs.Uniqueness.{run-unique}
use Rattle.run_rules.proofs.Verdicts.{limit-none, verdict-none}
use Rattle.run_rules.specs.Journal.{world_after}
use Rattle.run_rules.specs.MonitorFailures.{failed_at, first_failing, is_ended}
use Rattle.run_rules.specs.Position.{position_of, world_at}
use Rattle.run_rules.specs.Replay.{IsKeptVerdict, IsReplayOf, SpeaksWithin, unforced}
use Rattle.run_rules.specs.Replies.{routine_says, routines_say}
use Rattle.run_rules.specs.Run.{IsRun, IsRunJournal, Outcome}
use Rattle.run_rules.specs.Setup.{Script}
use Rattle.run_rules.specs.Verdict.{verdict_at}
use Rattle.run_rules.specs.declared.entry.Entry.{Entry}
use Rattle.run_rules.specs.declared.plan.Plan.{Plan}
use Rattle.run_rules.specs.declared.verdict.Verdict.{Verdict}
use Rattle.scenario_toml.specs.State.{ScenarioState}
use Rattle.scenario_toml.specs.declared.choice.Choice.{Choice}
use Rattle.seed_draws.specs.declared.any_draws.AnyDraws.{AnyDraws}
use Rattle.test_world.specs.Monitor.{is_failing}
use Rattle.test_world.specs.World.{WorldState, new_world}
use Rattle.test_world.specs.declared.monitor.Monitor.{Monitor}
use Rattle.test_world.specs.declared.monitor.Monitor.TheVariants.{CellEnd, Expect, LogWhole, WriteAhead}
use Rattle.walk_rules.specs.declared.rule.Rule.TheVariants.{Follow}
use Rattle.walk_rules.specs.State.{WalkState}
use Rattle.surw_cli.specs.Planned.{IsRunOf}
use Rattle.surw_cli.specs.Repeats.{Repeats, SavedRunsRepeat}
use Rattle.surw_cli.specs.ReplayAnswer.{IsReplayPlanned}
use Rattle.surw_cli.specs.Saved.{saved_run}
use Rattle.surw_cli.specs.Script.{any_routine, script}
use Rattle.surw_cli.proofs.OneReplay.{saved-one}

-- ---- monitors fail at the same places

first-unforced : (world : WorldState) (journal : List Entry) (monitor : Monitor) → first_failing world (unforced journal) monitor ≡ first_failing world journal monitor
unfolding first_failing
first-unforced world journal monitor =
    let same : (k : ℕ) → world_after world (take k (unforced journal)) ≡ world_after world (take k journal) =
    λ k. ap (world_after world) (take-map freed k journal) ∙ world-unforced world (take k journal) in
    (λ i. find (λ k. is_failing (same k i) monitor) (range_with_len 0 (length-unforced journal i + 1)))

failed-unforced : (world : WorldState) (journal : List Entry) (verdict : Verdict) (monitor : Monitor)
    → failed_at world (unforced journal) verdict monitor ≡ failed_at world journal verdict monitor
failed-unforced world journal verdict (CellEnd cell value) =
    (λ i. cond (is_ended verdict && is_failing (world-unforced world journal i) (CellEnd cell value)) (Some (length-unforced journal i)) None)
failed-unforced world journal verdict WriteAhead = first-unforced world journal WriteAhead
failed-unforced world journal verdict LogWhole = first-unforced world journal LogWhole
failed-unforced world journal verdict Expect = first-unforced world journal Expect

-- ---- a run is within its step limit

length-there : (script : Script) (journal : List Entry) (k : ℕ) → k < length journal → length (position_of script (take k journal)).journal ≡ k
unfolding position_of
length-there script journal k lt = length-take-le k journal (omega (arith, lt))

run-short : (script : Script) (journal : List Entry) → IsRunJournal script journal → length journal ≤ script.setup.max_steps
run-short script journal run = elim (cases_lt script.setup.max_steps (length journal)) [
  | inl longer ↦
      let most : ℕ = script.setup.max_steps in
      let next : IsNext journal most = next-at journal most longer in
      let going = (going-prefixes script journal run.legal run.going most next.item next.there).going in
      let short = limit-none script.setup (position_of script (take most journal)) (verdict-none script.setup (position_of script (take most journal)) going).short in
      absurd (short (length-there script journal most longer))
  | inr no_longer ↦ no_longer
]

-- ---- a plan that follows a run's saved text

module _ (bytes : List ℕ) (scenario : ScenarioState) (choice : Choice) (outcome again : Outcome) (plan : Plan AnyRoutine AnyDraws AnyDraws) (is : IsRunOf scenario choice outcome)
    (follows : IsReplayPlanned bytes scenario (saved_text (saved_run bytes outcome.journal)) plan)
    (same : follows.saved ≡ saved_run bytes outcome.journal) (run : IsRun (script plan) again) where
  abbrev first : Script
  first = script is.plan

  abbrev second : Script
  second = script plan

  speaks : SpeaksWithin first
  speaks = λ thread replies past. ap (λ (r : Option AnyRoutine). routine_says any_routine r replies) (slice_get_past is.plan.routines.items thread past)

  replay-of : IsReplayOf first outcome.journal second
  replay-of =
      let planned = follows.planned in
      let routines = planned.routines ∙ sym is.planned.routines in
      record {
        size = planned.world ∙ sym is.planned.world;
        threads = ap length routines;
        says = ap (routines_say any_routine) routines;
        monitors = planned.monitors ∙ sym is.planned.monitors;
        max_steps = planned.max_steps ∙ sym is.planned.max_steps;
        rule = ap (λ (w : WalkState). w.rule) planned.walk ∙ ap (λ (s : SavedRun). Follow s.entries) same;
      }

  -- the replay is the journal, and leads where it led
  saved-repeats : Repeats outcome again
  unfolding position_of
  saved-repeats =
      let replays = replays-repeat first speaks outcome.journal second is.run.run.legal (run-short first outcome.journal is.run.run) replay-of in
      let journal : again.journal ≡ unforced outcome.journal = run-unique second (unforced outcome.journal) again.journal replays.0.run run.run in
      let verdict : IsKeptVerdict outcome.verdict → again.verdict ≡ outcome.verdict = λ kept.
      same_Some again.verdict outcome.verdict
      (sym run.verdict ∙ ap (λ (j : List Entry). verdict_at second.setup (position_of second j)) journal ∙ replays.1 outcome.verdict is.run.verdict kept) in
      let monitors : again.monitors ≡ outcome.monitors = run.monitors ∙ replay-of.monitors ∙ sym is.run.monitors in
      record {
        journal = journal;
        world = run.world ∙ ap (λ (j : List Entry). world_at second.setup (position_of second j)) journal ∙ replays.0.world ∙ sym is.run.world;
        words = run.words ∙ ap (λ (j : List Entry). (position_of second j).words) journal ∙ replays.0.words ∙ sym is.run.words;
        verdict = verdict;
        failed = λ kept.
            run.failed
            ∙ (λ i. map (failed_at (new_world (replay-of.size i)) (journal i) (verdict kept i)) (monitors i))
            ∙ (λ i. map (λ monitor. failed-unforced (new_world first.setup.size) outcome.journal outcome.verdict monitor i) outcome.monitors)
            ∙ sym is.run.failed;
      }

pub saved-runs-repeat : SavedRunsRepeat
saved-runs-repeat bytes scenario choice outcome again plan is within follows run =
    let saved : SavedRun = saved_run bytes outcome.journal in
    let same : follows.saved ≡ saved = saved-one (saved_text saved) saved follows.saved (text-reads saved (saved_text saved) within refl) follows.form in
    saved-repeats bytes scenario choice outcome again plan is follows same run
