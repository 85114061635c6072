-- The running parts of a core after a step.
use Rattle.std.proofs.Common.{◌≡◌, ℕ, ◌+◌, ◌==◌, ◌&&◌, ◌<◌, ◌≤◌, All, Bool, true, false, cond, List, [], ◌∷◌, ◌++◌, length, get_or, map, set, None, Some, IsTrue, refl, ap, sym, subst, ◌∙◌, arith}
use Rattle.std.proofs.lemmas.Bool.{eqb-true, false≢true}
use Rattle.std.proofs.lemmas.List.{length-append, length-map}
use Rattle.std.proofs.lemmas.Option.{get_or_from_slice_get}
use Rattle.std.specs.Option.{option_or}
use Rattle.event_class.specs.Selection.{has}
use Rattle.draw_split.specs.Bag.{less_one}
use Rattle.seed_draws.specs.Answers.{IsSource, after_bounds}
use Rattle.seed_draws.specs.declared.draws.Draws.{Ghosts}
use Rattle.test_world.specs.declared.monitor.Monitor.{Monitor}
use Rattle.test_world.specs.declared.monitor.Monitor.TheVariants.{WriteAhead, LogWhole, Expect, CellEnd}
use Rattle.test_world.specs.Monitor.{CanWatch}
use Rattle.test_world.specs.World.{WorldState, after, is_enabled, new_world}
use Rattle.walk_rules.specs.declared.seen.Seen.{Seen}
use Rattle.walk_rules.specs.declared.seen.Seen.TheVariants.{Over, Held, Able}
use Rattle.walk_rules.specs.Seen.{is_selected, seen_of}
use Rattle.walk_rules.specs.State.{WalkState}
use Rattle.walk_rules.specs.Strategies.{counts_down}
use Rattle.walk_rules.specs.Walk.{after_done, after_picked}
use Rattle.run_rules.specs.declared.entry.Entry.{Entry}
use Rattle.run_rules.specs.RuleChoice.{choices, other_asked, pick_at, selected_asked, walk_at}
use Rattle.run_rules.specs.StepwisePicks.{WereAnswered}
use Rattle.run_rules.specs.Journal.{world_after}
use Rattle.run_rules.specs.NumbersLeft.{left_by}
use Rattle.run_rules.specs.EventsMade.{events_made}
use Rattle.run_rules.specs.Position.{Position, earlier, seen_at, seen_word, world_at}
use Rattle.run_rules.specs.Setup.{Setup}
use Rattle.run_rules.proofs.GrantedChoices.{granted-answered}
use Rattle.run_rules.proofs.MonitorFailures.{failing-more}
use Rattle.run_rules.proofs.Journals.{world-more}
use Rattle.run_rules.proofs.Numbers.{left-kept, left-more, made-more}
use Rattle.run_rules.proofs.StrategyPicks.{picks-choices}
use Rattle.run_rules.proofs.Verdicts.{verdict-none}
use Rattle.run_rules.proofs.Words.{seen-at}
use Rattle.pure_run.specs.declared.next.Next.TheVariants as next
use Rattle.pure_run.specs.declared.running.Running.{Running}
use Rattle.pure_run.specs.declared.word.Word.{Word}
use Rattle.pure_run.specs.declared.word.Word.TheVariants.{Due, Said}
use Rattle.pure_run.specs.Core.{CoreState, IsStep, after_entry, is_due, last_word, position, setup_by}
use Rattle.pure_run.specs.Decision.{is_drawn_at}
use Rattle.pure_run.specs.Invariant.{AreMadeAsCounted, AreParts, IsCore, failed_so_far}
use Rattle.pure_run.specs.Monitors.{failed_in, failed_then}
use Rattle.pure_run.specs.View.{FollowsEvent}
use Rattle.pure_run.proofs.Counts.{count-none, count-set_up}
use Rattle.pure_run.proofs.Decision.{running-due}
use Rattle.pure_run.proofs.Grant.{left-some, made-fewer, next-is}
use Rattle.pure_run.proofs.Sizes.{size-after, size-step}
use Rattle.pure_run.proofs.StepJournal.{due-there, kept-step, last-event, longer-earlier, within, word-back}
use Rattle.pure_run.proofs.Views.{seen-set}
use Rattle.pure_run.proofs.WordJournal.{any-due}

-- the numbers left after a step
left-step : {S O : Type 0} (counting : Bool) (setup : Setup) (core : CoreState S O) (entry : Entry) (chosen : Bool) → has setup.selection entry.event ≡ chosen
    → cond (counting && chosen) (less_one (left_by counting setup (position core)) entry.thread) (left_by counting setup (position core))
    ≡ left_by counting setup (position (after_entry core entry))
left-step true setup core entry true is = sym (left-more setup.selection setup.counts core.journal entry is)
left-step true setup core entry false is = sym (left-kept setup.selection setup.counts core.journal entry is)
left-step false setup core entry chosen is = refl

-- one event more of a thread that made fewer than counted
made-one : (made counted : ℕ) (selected same : Bool) → made ≤ counted → (selected ≡ true → same ≡ true → made < counted) → made + cond (selected && same) 1 0 ≤ counted
made-one made counted true true within fewer = let less = fewer refl refl in omega (arith, less)
made-one made counted true false within fewer = omega (arith, within)
made-one made counted false same within fewer = omega (arith, within)

made-step : (setup : Setup) (journal : List Entry) (entry : Entry) → AreMadeAsCounted setup journal
    → (IsTrue (counts_down setup.rule) → has setup.selection entry.event ≡ true → events_made setup.selection journal entry.thread < get_or setup.counts entry.thread 0)
    → AreMadeAsCounted setup (journal ++ entry ∷ [])
made-step setup journal entry made fewer = λ counts thread.
    let more = made-more setup.selection journal entry thread in
    let one = made-one (events_made setup.selection journal thread) (get_or setup.counts thread 0) (has setup.selection entry.event) (entry.thread == thread) (made counts thread)
    (λ selected same.
    let e : entry.thread ≡ thread = eqb-true entry.thread thread same in
    subst (λ t. events_made setup.selection journal t < get_or setup.counts t 0) e (fewer counts selected)) in
    omega (arith, more, one)

-- the places of the monitors after a step
place-step : (setup : Setup) (journal : List Entry) (entry : Entry) (monitor : Monitor)
    → option_or (failed_so_far setup journal monitor) (failed_in (world_after (new_world setup.size) (journal ++ entry ∷ [])) (length journal + 1) monitor)
    ≡ failed_so_far setup (journal ++ entry ∷ []) monitor
place-step setup journal entry (CellEnd cell value) = refl
place-step setup journal entry WriteAhead = sym (failing-more (new_world setup.size) journal entry WriteAhead)
place-step setup journal entry LogWhole = sym (failing-more (new_world setup.size) journal entry LogWhole)
place-step setup journal entry Expect = sym (failing-more (new_world setup.size) journal entry Expect)

places-step : (setup : Setup) (journal : List Entry) (entry : Entry) (monitors : List Monitor)
    → failed_then (world_after (new_world setup.size) (journal ++ entry ∷ [])) (length journal + 1) (map (failed_so_far setup journal) monitors) monitors
    ≡ map (failed_so_far setup (journal ++ entry ∷ [])) monitors
unfolding failed_then
places-step setup journal entry [] = refl
places-step setup journal entry (monitor ∷ monitors) =
    ap (λ place. place ∷ failed_then (world_after (new_world setup.size) (journal ++ entry ∷ [])) (length journal + 1) (map (failed_so_far setup journal) monitors) monitors)
    (place-step setup journal entry monitor)
    ∙ ap (λ places. failed_so_far setup (journal ++ entry ∷ []) monitor ∷ places) (places-step setup journal entry monitors)

-- whether the event of a thread that can go on is selected
selected-is : (chosen enabled : Bool) → IsTrue enabled → is_selected (cond enabled (Able chosen) (Held chosen)) ≡ chosen
selected-is chosen true is = refl
selected-is chosen false is = absurd (false≢true is)

module _ {S O : Type 0} (draws_s : Ghosts S) (draws_o : Ghosts O) (core : CoreState S O) (running : Running S O) (entry : Entry)
    (is : IsCore draws_s draws_o core running) (step : IsStep (setup_by draws_s draws_o core) core entry) where
  abbrev setup : Setup
  setup = setup_by draws_s draws_o core

  abbrev x : Position
  x = position core

  abbrev next-core : CoreState S O
  next-core = after_entry core entry

  -- draws were asked for at the position
  parts : AreParts draws_s draws_o setup core true running
  parts = subst (λ n. AreParts draws_s draws_o setup core (is_drawn_at n) running) (next-is draws_s draws_o core running is entry step) is.decided.parts

  thread-within : entry.thread < length x.words
  thread-within = let inside = within setup core entry is.kept step in omega (arith, inside, length-map core.words last_word)

  -- the walk waits for the step
  walk-waits : running.walk ≡ record (walk_at setup x) { memory = (pick_at setup x).memory; waiting = Some (record { thread = entry.thread; forced = entry.forced }) }
  walk-waits =
      parts.walk
      ∙ ap (λ p. after_picked (walk_at setup x) (pick_at setup x).memory p) ((picks-choices setup.rule).picks setup x parts.answered ∙ step.chosen)

  fewer : IsTrue (counts_down setup.rule) → has setup.selection entry.event ≡ true → events_made setup.selection core.journal entry.thread < get_or setup.counts entry.thread 0
  fewer counts selected =
      made-fewer setup x entry.thread entry.event ((verdict-none setup x step.going).counted) thread-within (last-event setup core entry is.kept step) counts selected

  -- what the calls on the way ask
  pub record CanStep : Type 0 where
    pub waits : running.walk.waiting ≡ Some (record { thread = entry.thread; forced = entry.forced })
    pub left : IsTrue (counts_down running.walk.rule) → IsTrue (has setup.selection entry.event) → 0 < get_or running.walk.left entry.thread 0
    pub each : length running.view ≡ length core.words
    pub listed : entry.thread < length running.view
    pub watched : All (CanWatch (after running.world entry.thread entry.event).size) setup.monitors

  pub can-step : CanStep
  unfolding seen_at
  can-step =
      let each : length running.view ≡ length core.words =
      ap (λ v. length v) parts.view ∙ length-map x.words (seen_word (world_at setup x) setup.selection) ∙ length-map core.words last_word in
      record {
        waits = ap (λ (w : WalkState). w.waiting) walk-waits;
        left = λ counts selects.
            let rule : running.walk.rule ≡ setup.rule = ap (λ (w : WalkState). w.rule) walk-waits in
            subst (λ xs. 0 < get_or xs entry.thread 0) (sym (ap (λ (w : WalkState). w.left) walk-waits))
            (left-some setup x entry.thread entry.event ((verdict-none setup x step.going).counted) thread-within (last-event setup core entry is.kept step)
            (sym (ap counts_down rule) ∙ counts) selects);
        each = each;
        listed = let inside = within setup core entry is.kept step in omega (arith, inside, each);
        watched =
            subst (λ size. All (CanWatch size) setup.monitors)
            (sym (size-step running.world entry.thread entry.event ∙ ap (λ w. w.size) parts.world ∙ size-after (new_world setup.size) core.journal)) is.kept.valid.watched;
      }

  -- whether its event is selected, as it is seen
  pub chosen-is : (seen : Seen) (chosen : Bool) → seen ≡ seen_of running.view entry.thread → chosen ≡ is_selected seen → chosen ≡ has setup.selection entry.event
  chosen-is seen chosen seen_is chosen_is =
      let there : seen_of running.view entry.thread ≡ seen_word (world_at setup x) setup.selection (Some entry.event) =
      ap (λ v. seen_of v entry.thread) parts.view
      ∙ seen-at setup x entry.thread
      ∙ ap (seen_word (world_at setup x) setup.selection) (last-event setup core entry is.kept step) in
      chosen_is ∙ ap is_selected (seen_is ∙ there) ∙ selected-is (has setup.selection entry.event) (is_enabled (world_at setup x) entry.event) step.enabled

  world-step : after running.world entry.thread entry.event ≡ world_at setup (position next-core)
  world-step = ap (λ w. after w entry.thread entry.event) parts.world ∙ sym (world-more (new_world setup.size) core.journal entry)

  -- what is seen of the words then
  pub look-then : (now : WorldState) (words : List Word) (look : List Seen) → now ≡ after running.world entry.thread entry.event → words ≡ core.words
      → FollowsEvent now entry.event (map last_word words) running.view look
      → look ≡ map (seen_word (after running.world entry.thread entry.event) setup.selection) x.words
  unfolding seen_at
  look-then now words look now_is words_is follows =
      follows running.world entry.thread setup.selection now_is
      (parts.view ∙ (λ i. map (seen_word (sym parts.world i) setup.selection) (map last_word (sym words_is i))))
      ∙ (λ i. map (seen_word (now_is i) setup.selection) (map last_word (words_is i)))

  pub look-within : (look : List Seen) → look ≡ map (seen_word (after running.world entry.thread entry.event) setup.selection) x.words → entry.thread < length look
  look-within look is_map =
      let inside = thread-within in
      omega (arith, inside, ap (λ v. length v) is_map, length-map x.words (seen_word (after running.world entry.thread entry.event) setup.selection))

  -- and once the word of the thread is due
  pub seen-then : (look view : List Seen) → look ≡ map (seen_word (after running.world entry.thread entry.event) setup.selection) x.words
      → view ≡ set look entry.thread Over
      → view ≡ map (seen_word (after running.world entry.thread entry.event) setup.selection) (map last_word (set core.words entry.thread Due))
  seen-then look view is_map is_set =
      is_set ∙ ap (λ v. set v entry.thread Over) is_map ∙ seen-set (after running.world entry.thread entry.event) setup.selection core.words entry.thread

  -- the core after the step
  pub core-step : IsSource setup.selected.answers → IsSource setup.other.answers
      → (then : Running S O) → then.world ≡ after running.world entry.thread entry.event → then.due ≡ 1
      → then.view ≡ map (seen_word (after running.world entry.thread entry.event) setup.selection) (map last_word (set core.words entry.thread Due))
      → then.walk ≡ after_done running.walk entry.thread (has setup.selection entry.event) entry.forced
      → then.selected ≡ running.selected → then.other ≡ running.other
      → then.failed.items ≡ failed_then (after running.world entry.thread entry.event) (length core.journal + 1) running.failed.items setup.monitors
      → then.next ≡ next.Due → IsCore draws_s draws_o next-core then
  unfolding seen_at
  core-step source_s source_o then world_is due_is view_is walk_is selected_is other_is failed_is next_is =
      let there : earlier (position next-core) ≡ earlier x ++ x ∷ [] = longer-earlier setup core entry is.kept step in
      let ready : AreParts draws_s draws_o setup next-core false then = record {
        world = world_is ∙ world-step;
        due =
            let up = count-set_up is_due core.words entry.thread Due (Said None) (within setup core entry is.kept step)
            (ap is_due (get_or_from_slice_get core.words entry.thread (Said (Some entry.event)) (Said None) step.word)) refl in
            omega (arith, up, due_is, count-none is_due core.words step.said);
        view = view_is ∙ ap (λ w. map (seen_word w setup.selection) (map last_word next-core.words)) world-step;
        walk =
            walk_is
            ∙ ap (λ w. after_done w entry.thread (has setup.selection entry.event) entry.forced) walk-waits
            ∙ (λ i. record {
              rule = setup.rule;
              counts = setup.counts;
              steps = sym (length-append core.journal (entry ∷ [])) i;
              left = left-step (counts_down setup.rule) setup core entry (has setup.selection entry.event) refl i;
              memory = (picks-choices setup.rule).keeps setup core.journal entry x.words (map last_word next-core.words)
                  (word-back setup core entry is.kept step) parts.answered step.chosen i;
              waiting = None;
            });
        made = made-step setup core.journal entry parts.made fewer;
        selected = selected_is ∙ parts.selected ∙ ap (λ xs. after_bounds draws_s core.opening.selected (selected_asked setup xs)) (sym there);
        other = other_is ∙ parts.other ∙ ap (λ xs. after_bounds draws_o core.opening.other (other_asked setup xs)) (sym there);
        answered =
            subst (λ xs. WereAnswered (choices setup.rule) setup xs) (sym there)
            (granted-answered setup x source_s source_o parts.answered entry.thread entry.forced step.chosen);
        failed =
            failed_is
            ∙ ap (λ w. failed_then w (length core.journal + 1) running.failed.items setup.monitors) world-step
            ∙ ap (λ places. failed_then (world_at setup (position next-core)) (length core.journal + 1) places setup.monitors) parts.failed
            ∙ places-step setup core.journal entry setup.monitors;
      } in
      record {
        kept = kept-step setup core entry is.kept step;
        decided = running-due draws_s draws_o next-core then ready next_is (any-due next-core.words entry.thread (due-there setup core entry is.kept step));
      }
