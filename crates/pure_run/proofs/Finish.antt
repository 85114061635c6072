-- A core that stops is the run that it ends with.
use Rattle.std.proofs.Common.{◌≡◌, ℕ, ◌+◌, ◌&&◌, Bool, true, false, cond, min, List, [], ◌∷◌, ◌++◌, length, map, Option, None, Some, refl, ap, sym, ◌∙◌}
use Rattle.std.proofs.lemmas.List.{append-nil}
use Rattle.std.specs.List.{list_any}
use Rattle.surw_base.specs.Number.{greatest}
use Rattle.seed_draws.specs.Answers.{after_bounds}
use Rattle.seed_draws.specs.declared.draws.Draws.{Ghosts}
use Rattle.test_world.specs.declared.monitor.Monitor.{Monitor}
use Rattle.test_world.specs.declared.monitor.Monitor.TheVariants.{WriteAhead, LogWhole, Expect, CellEnd}
use Rattle.test_world.specs.Monitor.{is_failing}
use Rattle.test_world.specs.World.{new_world}
use Rattle.walk_rules.specs.declared.picked.Picked.{Picked}
use Rattle.walk_rules.specs.declared.picked.Picked.TheVariants as picked
use Rattle.run_rules.specs.declared.entry.Entry.{Entry}
use Rattle.run_rules.specs.declared.verdict.Verdict.{Verdict}
use Rattle.run_rules.specs.RuleChoice.{choice, other_asked, selected_asked}
use Rattle.run_rules.specs.MonitorFailures.{failed_at, is_ended}
use Rattle.run_rules.specs.Journal.{world_after}
use Rattle.run_rules.specs.Position.{Position, earlier}
use Rattle.run_rules.specs.Run.{Outcome, bent_at, is_drawn, positions_of_draws}
use Rattle.run_rules.specs.Setup.{Setup}
use Rattle.run_rules.specs.Verdict.{verdict_at}
use Rattle.pure_run.specs.declared.next.Next.TheVariants.{Due, Stopped}
use Rattle.pure_run.specs.declared.running.Running.{Running}
use Rattle.pure_run.specs.Core.{CoreState, is_due, position, setup_by, verdict_of}
use Rattle.pure_run.specs.Decision.{is_drawn_at}
use Rattle.pure_run.specs.Finish.{outcome_at}
use Rattle.pure_run.specs.Invariant.{IsCore, drawn_by, failed_so_far, next_by}
use Rattle.pure_run.specs.Run.{at_end, place_at_end}

-- the run stops: no word is due, and this is the verdict
pub record IsStop (due : Bool) (found : Option Verdict) (verdict : Verdict) : Type 0 where
  pub said : due ≡ false
  pub is : found ≡ Some verdict

pub is-stop : (due : Bool) (found : Option Verdict) (chosen : Picked) (verdict : Verdict) → Stopped verdict ≡ cond due Due (next_by found chosen) → IsStop due found verdict
is-stop true found chosen verdict is = cc
is-stop false (Some other) chosen verdict is = record { said = refl; is = cc }
is-stop false None (picked.Grant thread forced) verdict is = cc
is-stop false None (picked.Stop fault) verdict is = cc

-- the place of a monitor at the end
cell-end : (ended failing : Bool) (steps : ℕ) → cond ended (cond failing (Some steps) None) None ≡ cond (ended && failing) (Some steps) None
cell-end true failing steps = refl
cell-end false failing steps = refl

place-end : (setup : Setup) (journal : List Entry) (verdict : Verdict) (monitor : Monitor)
    → place_at_end (world_after (new_world setup.size) journal) (length journal) verdict (failed_so_far setup journal monitor) monitor
    ≡ failed_at (new_world setup.size) journal verdict monitor
place-end setup journal verdict (CellEnd cell value) =
    cell-end (is_ended verdict) (is_failing (world_after (new_world setup.size) journal) (CellEnd cell value)) (length journal)
place-end setup journal verdict WriteAhead = refl
place-end setup journal verdict LogWhole = refl
place-end setup journal verdict Expect = refl

places-end : (setup : Setup) (journal : List Entry) (verdict : Verdict) (monitors : List Monitor)
    → at_end (world_after (new_world setup.size) journal) (length journal) verdict (map (failed_so_far setup journal) monitors) monitors
    ≡ map (failed_at (new_world setup.size) journal verdict) monitors
unfolding at_end
places-end setup journal verdict [] = refl
places-end setup journal verdict (monitor ∷ monitors) =
    ap (λ place. place ∷ at_end (world_after (new_world setup.size) journal) (length journal) verdict (map (failed_so_far setup journal) monitors) monitors)
    (place-end setup journal verdict monitor)
    ∙ ap (λ places. failed_at (new_world setup.size) journal verdict monitor ∷ places) (places-end setup journal verdict monitors)

-- the positions at which draws were asked for
drawn-cond : (xs : List Position) (x : Position) (b : Bool) → cond b (xs ++ x ∷ []) xs ≡ xs ++ cond b (x ∷ []) []
drawn-cond xs x true = refl
drawn-cond xs x false = sym (append-nil xs)

drawn-stop : (setup : Setup) (x : Position) (verdict : Verdict) → verdict_at setup x ≡ Some verdict → drawn_by (is_drawn_at (Stopped verdict)) x ≡ positions_of_draws setup x
unfolding positions_of_draws
drawn-stop setup x verdict is =
    drawn-cond (earlier x) x (is_drawn (Some verdict)) ∙ ap (λ found. earlier x ++ cond (is_drawn found) (x ∷ []) []) (sym is)

module _ {S O : Type 0} (draws_s : Ghosts S) (draws_o : Ghosts O) (core : CoreState S O) (running : Running S O) (verdict : Verdict)
    (is : IsCore draws_s draws_o core running) (stopped : running.next ≡ Stopped verdict) where
  abbrev setup : Setup
  setup = setup_by draws_s draws_o core

  abbrev x : Position
  x = position core

  stop : IsStop (list_any is_due core.words) (verdict_at setup x) verdict
  stop = is-stop (list_any is_due core.words) (verdict_at setup x) (choice setup x) verdict (sym stopped ∙ is.decided.next)

  -- it is the verdict of the core
  pub verdict-is : verdict_of setup core ≡ Some verdict
  verdict-is = ap (λ b. cond b None (verdict_at setup x)) stop.said ∙ stop.is

  drawn_is : drawn_by (is_drawn_at running.next) x ≡ positions_of_draws setup x
  drawn_is = ap (λ n. drawn_by (is_drawn_at n) x) stopped ∙ drawn-stop setup x verdict stop.is

  bent_is : min (draws_s.bent_draws running.selected + draws_o.bent_draws running.other) greatest ≡ bent_at setup x
  bent_is =
      (λ i. min (draws_s.bent_draws (is.decided.parts.selected i) + draws_o.bent_draws (is.decided.parts.other i)) greatest)
      ∙ (λ i. min (draws_s.bent_draws (after_bounds draws_s core.opening.selected (selected_asked setup (drawn_is i)))
      + draws_o.bent_draws (after_bounds draws_o core.opening.other (other_asked setup (drawn_is i)))) greatest)

  pub outcome-is : (outcome : Outcome)
      → outcome.journal ≡ core.journal → outcome.world ≡ running.world → outcome.verdict ≡ verdict → outcome.words ≡ x.words
      → outcome.bent ≡ min (draws_s.bent_draws running.selected + draws_o.bent_draws running.other) greatest
      → outcome.selection ≡ setup.selection → outcome.monitors ≡ setup.monitors
      → outcome.failed ≡ at_end running.world (length core.journal) verdict running.failed.items setup.monitors
      → outcome ≡ outcome_at setup x verdict
  outcome-is outcome journal_is world_is verdict_is words_is bent_was selection_is monitors_is failed_is = λ i. record {
    journal = journal_is i;
    world = (world_is ∙ is.decided.parts.world) i;
    verdict = verdict_is i;
    words = words_is i;
    bent = (bent_was ∙ bent_is) i;
    selection = selection_is i;
    monitors = monitors_is i;
    failed =
        (failed_is
        ∙ (λ j. at_end (is.decided.parts.world j) (length core.journal) verdict (is.decided.parts.failed j) setup.monitors)
        ∙ places-end setup core.journal verdict setup.monitors) i;
  }
