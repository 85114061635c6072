-- A core as it is opened.
use Rattle.std.proofs.Common.{◌≡◌, ℕ, zero, suc, Bool, true, false, cond, List, [], ◌∷◌, map, replicate, Option, None, refl, ap, sym, subst, ◌∙◌, arith}
use Rattle.std.proofs.lemmas.List.{length-replicate}
use Rattle.std.proofs.lemmas.List.Folds.{sum_by-replicate}
use Rattle.std.proofs.lemmas.Option.{none-some}
use Rattle.event_class.specs.declared.event.Event.{Event}
use Rattle.seed_draws.specs.Answers.{after_bounds, answers}
use Rattle.seed_draws.specs.declared.draws.Draws.{Ghosts}
use Rattle.test_world.specs.declared.monitor.Monitor.{Monitor}
use Rattle.test_world.specs.declared.monitor.Monitor.TheVariants.{WriteAhead, LogWhole, Expect, CellEnd}
use Rattle.test_world.specs.World.{WorldState, new_world}
use Rattle.walk_rules.specs.declared.seen.Seen.TheVariants.{Over}
use Rattle.walk_rules.specs.State.{new_walk}
use Rattle.walk_rules.specs.Strategies.{counts_down}
use Rattle.run_rules.specs.RuleChoice.{choices, other_asked, selected_asked}
use Rattle.run_rules.specs.MonitorFailures.{first_failing}
use Rattle.run_rules.specs.StepwisePicks.{WereAnswered}
use Rattle.run_rules.specs.Journal.{world_after}
use Rattle.run_rules.specs.NumbersLeft.{left_by}
use Rattle.run_rules.specs.EventsMade.{events_made}
use Rattle.run_rules.specs.Position.{earlier, seen_at, seen_word}
use Rattle.run_rules.specs.Setup.{Setup, IsValid}
use Rattle.run_rules.proofs.Numbers.{left-none}
use Rattle.run_rules.proofs.StrategyPicks.{picks-choices}
use Rattle.pure_run.specs.declared.running.Running.{Running}
use Rattle.pure_run.specs.declared.word.Word.TheVariants.{Due}
use Rattle.pure_run.specs.Core.{CoreState, is_due, last_word, new_core, position, setup_by}
use Rattle.pure_run.specs.Invariant.{AreMadeAsCounted, AreParts, IsKept, failed_so_far}
use Rattle.pure_run.specs.Monitors.{failed_in}
use Rattle.pure_run.specs.Opening.{OpeningState}

left-new : (counting : Bool) (setup : Setup) (words : List (Option Event)) → left_by counting setup (record { journal = []; words = words }) ≡ setup.counts
left-new true setup words = left-none setup.selection setup.counts
left-new false setup words = refl

made-new : (setup : Setup) → AreMadeAsCounted setup []
unfolding events_made
made-new setup = λ counts thread. omega arith

earlier-new : (words : List (Option Event)) → earlier (record { journal = []; words = words }) ≡ []
unfolding earlier
earlier-new words = refl

-- each thread whose word is due has none
seen-due : (world : WorldState) (setup : Setup) (n : ℕ) → replicate n Over ≡ map (seen_word world setup.selection) (map last_word (replicate n Due))
seen-due world setup zero = refl
seen-due world setup (suc n) = ap (λ rest. Over ∷ rest) (seen-due world setup n)

-- the monitors in the new world
place-new : (setup : Setup) (monitor : Monitor) → failed_in (new_world setup.size) 0 monitor ≡ failed_so_far setup [] monitor
unfolding first_failing world_after
place-new setup (CellEnd cell value) = refl
place-new setup WriteAhead = refl
place-new setup LogWhole = refl
place-new setup Expect = refl

places-new : (setup : Setup) (monitors : List Monitor) → map (failed_in (new_world setup.size) 0) monitors ≡ map (failed_so_far setup []) monitors
places-new setup [] = refl
places-new setup (monitor ∷ monitors) =
    ap (λ place. place ∷ map (failed_in (new_world setup.size) 0) monitors) (place-new setup monitor)
    ∙ ap (λ places. failed_so_far setup [] monitor ∷ places) (places-new setup monitors)

module _ {S O : Type 0} (draws_s : Ghosts S) (draws_o : Ghosts O) (opening : OpeningState S O) where
  abbrev core : CoreState S O
  core = new_core opening

  abbrev setup : Setup
  setup = setup_by draws_s draws_o core

  pub kept-new : IsValid setup → IsKept setup core
  kept-new valid = record {
    valid = valid;
    each = length-replicate opening.threads Due;
    short = omega arith;
    entries = λ k entry at. absurd (none-some entry at);
    going = λ k entry at. absurd (none-some entry at);
    last_due = λ entry thread at due. absurd (none-some entry at);
  }

  pub parts-new : opening.walk ≡ new_walk opening.walk.rule opening.walk.counts
      → (running : Running S O) → running.world ≡ new_world opening.size → running.due ≡ opening.threads → running.view ≡ replicate opening.threads Over
      → running.walk ≡ opening.walk → running.selected ≡ opening.selected → running.other ≡ opening.other
      → running.failed.items ≡ map (failed_in (new_world opening.size) 0) opening.monitors → AreParts draws_s draws_o setup core false running
  unfolding world_after seen_at after_bounds answers
  parts-new fresh running world_is due_is view_is walk_is selected_is other_is failed_is =
      let none : earlier (position core) ≡ [] = earlier-new (map last_word core.words) in
      record {
        world = world_is;
        due = due_is ∙ sym (sum_by-replicate (λ word. cond {A = ℕ} (is_due word) 1 0) opening.threads Due ∙ omega arith);
        view = view_is ∙ seen-due (new_world opening.size) setup opening.threads;
        walk =
            walk_is
            ∙ fresh
            ∙ (λ i. record {
              rule = setup.rule;
              counts = setup.counts;
              steps = 0;
              left = sym (left-new (counts_down setup.rule) setup (map last_word core.words)) i;
              memory = sym ((picks-choices setup.rule).starts setup (map last_word core.words)) i;
              waiting = None;
            });
        made = made-new setup;
        selected = selected_is ∙ ap (λ xs. after_bounds draws_s opening.selected (selected_asked setup xs)) (sym none);
        other = other_is ∙ ap (λ xs. after_bounds draws_o opening.other (other_asked setup xs)) (sym none);
        answered = subst (λ xs. WereAnswered (choices setup.rule) setup xs) (sym none) (record { selected = refl; other = refl });
        failed = failed_is ∙ places-new setup setup.monitors;
      }
