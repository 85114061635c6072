-- The running parts of a core after a word.
use Rattle.std.proofs.Common.{◌≡◌, ℕ, ◌+◌, ◌-◌, ◌<◌, ◌≤◌, Bool, false, cond, length, map, set, Option, None, Some, refl, ap, sym, subst, ◌∙◌, arith}
use Rattle.std.proofs.lemmas.List.{length-map, map-set}
use Rattle.std.proofs.lemmas.Option.{get_or_from_slice_get, slice_get_within}
use Rattle.std.specs.List.{count_by, slice_get}
use Rattle.event_class.specs.declared.event.Event.{Event}
use Rattle.seed_draws.specs.Answers.{after_bounds}
use Rattle.seed_draws.specs.declared.draws.Draws.{Ghosts}
use Rattle.walk_rules.specs.Strategies.{counts_down}
use Rattle.run_rules.specs.RuleChoice.{choice, choices, other_asked, selected_asked}
use Rattle.run_rules.specs.StepwisePicks.{WereAnswered}
use Rattle.run_rules.specs.NumbersLeft.{left_by}
use Rattle.run_rules.specs.Position.{Position, earlier, seen_at, seen_word, world_at}
use Rattle.run_rules.specs.Setup.{Setup}
use Rattle.run_rules.specs.Verdict.{verdict_at}
use Rattle.run_rules.proofs.StrategyPicks.{picks-choices}
use Rattle.pure_run.specs.declared.next.Next.TheVariants as next
use Rattle.pure_run.specs.declared.running.Running.{Running}
use Rattle.pure_run.specs.declared.word.Word.TheVariants.{Due, Said}
use Rattle.pure_run.specs.Core.{CoreState, after_word, is_due, last_word, position, setup_by}
use Rattle.pure_run.specs.Decision.{is_drawn_at}
use Rattle.pure_run.specs.Invariant.{AreParts, IsCore, next_by}
use Rattle.pure_run.proofs.Counts.{count-set}
use Rattle.pure_run.proofs.WordJournal.{any-due, last-words, same-earlier}

module _ {S O : Type 0} (draws_s : Ghosts S) (draws_o : Ghosts O) (core : CoreState S O) (running : Running S O) (thread : ℕ) (event : Option Event)
    (is : IsCore draws_s draws_o core running) (at : slice_get core.words thread ≡ Some Due) where
  abbrev setup : Setup
  setup = setup_by draws_s draws_o core

  abbrev x : Position
  x = position core

  abbrev next-core : CoreState S O
  next-core = after_word core thread event

  -- nothing comes next while a word is due
  pub next-due : running.next ≡ next.Due
  next-due = is.decided.next ∙ ap (λ (b : Bool). cond b next.Due (next_by (verdict_at setup x) (choice setup x))) (any-due core.words thread at)

  -- so no draws were asked for at the position
  parts : AreParts draws_s draws_o setup core false running
  parts = subst (λ n. AreParts draws_s draws_o setup core (is_drawn_at n) running) next-due is.decided.parts

  pub within : thread < length core.words
  within = slice_get_within core.words thread Due at

  pub view-within : thread < length running.view
  unfolding seen_at
  view-within =
      let each : length running.view ≡ length core.words =
      ap (λ v. length v) parts.view ∙ length-map x.words (seen_word (world_at setup x) setup.selection) ∙ length-map core.words last_word in
      let inside = within in
      omega (arith, inside, each)

  less : count_by is_due next-core.words + 1 ≡ count_by is_due core.words
  less = count-set is_due core.words thread (Said event) Due within (ap is_due (get_or_from_slice_get core.words thread Due Due at)) refl

  pub due-some : 1 ≤ running.due
  due-some = let all = parts.due in omega (arith, less, all)

  -- the parts after it, before it is decided what comes next
  pub parts-word : (then : Running S O) → then.world ≡ running.world → then.due ≡ running.due - 1
      → then.view ≡ set running.view thread (seen_word running.world setup.selection event)
      → then.walk ≡ running.walk → then.selected ≡ running.selected → then.other ≡ running.other → then.failed.items ≡ running.failed.items
      → AreParts draws_s draws_o setup next-core false then
  unfolding seen_at
  parts-word then world_is due_is view_is walk_is selected_is other_is failed_is =
      let there : earlier (position next-core) ≡ earlier x = same-earlier setup core thread event is.kept at in
      record {
        world = world_is ∙ parts.world;
        due = let all = parts.due in omega (arith, less, all, due_is);
        view =
            view_is
            ∙ ap (λ w. set running.view thread (seen_word w setup.selection event)) parts.world
            ∙ ap (λ v. set v thread (seen_word (world_at setup x) setup.selection event)) parts.view
            ∙ sym (map-set (seen_word (world_at setup x) setup.selection) x.words thread event)
            ∙ ap (λ last. map (seen_word (world_at setup x) setup.selection) last) (sym (last-words setup core thread event is.kept at));
        walk =
            walk_is
            ∙ parts.walk
            ∙ (λ i. record {
              rule = setup.rule;
              counts = setup.counts;
              steps = length core.journal;
              left = left_by (counts_down setup.rule) setup x;
              memory = (picks-choices setup.rule).ignores_words setup x (position next-core) refl (sym there) i;
              waiting = None;
            });
        made = parts.made;
        selected = selected_is ∙ parts.selected ∙ ap (λ xs. after_bounds draws_s core.opening.selected (selected_asked setup xs)) (sym there);
        other = other_is ∙ parts.other ∙ ap (λ xs. after_bounds draws_o core.opening.other (other_asked setup xs)) (sym there);
        answered = subst (λ xs. WereAnswered (choices setup.rule) setup xs) (sym there) parts.answered;
        failed = failed_is ∙ parts.failed;
      }
