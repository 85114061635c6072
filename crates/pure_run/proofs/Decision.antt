-- What the running parts decide is what the position decides.
use Rattle.std.proofs.Common.{◌≡◌, ℕ, ◌||◌, ◌<◌, eqb, Bool, true, false, cond, not, List, [], ◌∷◌, length, map, Option, None, Some, is_some, refl, ap, sym, subst, ◌∙◌, inl, inr, arith}
use Rattle.std.proofs.lemmas.Bool.{cases_eq, le-ltb, lt-ltb}
use Rattle.std.proofs.lemmas.List.{length-map}
use Rattle.std.specs.List.{count_by, list_any}
use Rattle.std.specs.Option.{option_map}
use Rattle.event_class.specs.declared.event.Event.{Event}
use Rattle.event_class.specs.declared.pickable.Pickable.{Pickable}
use Rattle.event_class.specs.Selection.{has}
use Rattle.seed_draws.specs.Answers.{after_bounds}
use Rattle.seed_draws.specs.declared.draws.Draws.{Ghosts}
use Rattle.test_world.specs.World.{WorldState, is_enabled}
use Rattle.walk_rules.specs.declared.picked.Picked.{Picked}
use Rattle.walk_rules.specs.declared.picked.Picked.TheVariants as picked
use Rattle.walk_rules.specs.declared.seen.Seen.{Seen}
use Rattle.walk_rules.specs.declared.seen.Seen.TheVariants.{Held, Able}
use Rattle.walk_rules.specs.Seen.{able_threads, is_able, is_announcing}
use Rattle.walk_rules.specs.State.{WalkState}
use Rattle.walk_rules.specs.Strategies as strategies
use Rattle.walk_rules.specs.Strategies.{asked_at, asked_list, pick_from}
use Rattle.walk_rules.specs.Strategy.{OnePick}
use Rattle.walk_rules.specs.Walk.{AreChosenUnder, NoOtherIsWrong, wrong_of}
use Rattle.walk_rules.proofs.AbleThreads.{length-able}
use Rattle.run_rules.specs.declared.verdict.Verdict.{Verdict}
use Rattle.run_rules.specs.declared.verdict.Verdict.TheVariants.{Ended, Deadlock}
use Rattle.run_rules.specs.RuleChoice.{choice, choices, other_asked, pick_at, selected_asked, walk_at}
use Rattle.run_rules.specs.Position.{Position, earlier, seen_at, seen_word, world_at}
use Rattle.run_rules.specs.Setup.{Setup}
use Rattle.run_rules.specs.Verdict.{deadlock, end_of_threads, first_of, left_over, other_than_asked, refusal, step_limit, verdict_at, wrong_count}
use Rattle.run_rules.proofs.WholeSelection.{chosen-under}
use Rattle.run_rules.proofs.WrongCounts.{wrong-follows}
use Rattle.run_rules.proofs.StrategyPicks.{picks-choices}
use Rattle.pure_run.specs.declared.next.Next.{Next}
use Rattle.pure_run.specs.declared.next.Next.TheVariants.{Due}
use Rattle.pure_run.specs.declared.running.Running.{Running}
use Rattle.pure_run.specs.Core.{CoreState, is_due, last_thread, last_word, position, setup_by}
use Rattle.pure_run.specs.Decision.{IsDecidable, bounds_by, decision, is_drawn_at, next_after, next_picked, pick_by, stopped_or, walk_then, wrong_verdict}
use Rattle.pure_run.specs.Invariant.{AreParts, IsAbleNext, IsCore, IsKept, IsRunning, next_by, next_in}
use Rattle.pure_run.proofs.LastWrong.{if-some, last-is}
use Rattle.pure_run.proofs.Counts.{count-any, none-counted, positive, some-counted}
use Rattle.pure_run.proofs.Sources.{asked-more, rest-answers}

-- a thread announces exactly where it has a word
announcing-event : (chosen enabled : Bool) → is_announcing (cond enabled (Able chosen) (Held chosen)) ≡ true
announcing-event chosen true = refl
announcing-event chosen false = refl

announcing-word : (world : WorldState) (selection : List Pickable) (word : Option Event) → is_announcing (seen_word world selection word) ≡ is_some word
announcing-word world selection None = refl
announcing-word world selection (Some event) = announcing-event (has selection event) (is_enabled world event)

announcing-words : (world : WorldState) (selection : List Pickable) (words : List (Option Event))
    → list_any is_announcing (map (seen_word world selection) words) ≡ list_any is_some words
announcing-words world selection [] = refl
announcing-words world selection (word ∷ words) =
    ap (λ (b : Bool). b || list_any is_announcing (map (seen_word world selection) words)) (announcing-word world selection word)
    ∙ ap (λ (b : Bool). is_some word || b) (announcing-words world selection words)

none-announcing : (setup : Setup) (x : Position) → eqb (count_by is_announcing (seen_at setup x)) 0 ≡ not (list_any is_some x.words)
unfolding seen_at
none-announcing setup x = count-any is_announcing (seen_at setup x) ∙ ap not (announcing-words (world_at setup x) setup.selection x.words)

none-able : (setup : Setup) (x : Position) → eqb (length (able_threads (seen_at setup x))) 0 ≡ not (list_any is_able (seen_at setup x))
none-able setup x = ap (λ n. eqb n 0) (length-able (seen_at setup x)) ∙ count-any is_able (seen_at setup x)

-- with the choice behind them, the causes to stop are those of the position
in-order : (step : ℕ) (asked wrong ended limit stuck left : Option Verdict) (chosen : Picked)
    → stopped_or (first_of (asked ∷ wrong ∷ ended ∷ limit ∷ stuck ∷ left ∷ [])) (next_picked step chosen)
    ≡ next_by (first_of (asked ∷ wrong ∷ ended ∷ limit ∷ stuck ∷ left ∷ refusal step chosen ∷ [])) chosen
in-order step (Some v) wrong ended limit stuck left chosen = refl
in-order step None (Some v) ended limit stuck left chosen = refl
in-order step None None (Some v) limit stuck left chosen = refl
in-order step None None None (Some v) stuck left chosen = refl
in-order step None None None None (Some v) left chosen = refl
in-order step None None None None None (Some v) chosen = refl
in-order step None None None None None None (picked.Grant thread forced) = refl
in-order step None None None None None None (picked.Stop fault) = refl

-- a cause that is looked for by its absence
unless-cause : (b : Bool) (verdict : Verdict) → cond (not b) (Some verdict) None ≡ cond b None (Some verdict)
unless-cause true verdict = refl
unless-cause false verdict = refl

module _ {S O : Type 0} (draws_s : Ghosts S) (draws_o : Ghosts O) (core : CoreState S O) (running : Running S O) where
  abbrev setup : Setup
  setup = setup_by draws_s draws_o core

  abbrev x : Position
  x = position core

  module _ (ready : AreParts draws_s draws_o setup core false running) where
    -- the pick by the running parts is the one at the position
    pick-there : pick_by draws_s draws_o running ≡ pick_at setup x
    pick-there =
        (λ i. pick_from draws_s draws_o (ready.walk i) (ready.view i) (ready.selected i) (ready.other i))
        ∙ (λ i. strategies.pick_by (walk_at setup x) (seen_at setup x)
        (rest-answers draws_s core.opening.selected setup.selected.answers (λ bounds. refl) (selected_asked setup (earlier x)) ready.answered.selected i)
        (rest-answers draws_o core.opening.other setup.other.answers (λ bounds. refl) (other_asked setup (earlier x)) ready.answered.other i))

    -- so what is decided by them is what comes next there
    decided-there : next_after core running (pick_by draws_s draws_o running).picked
        ≡ next_by (verdict_at setup x) (choice setup x)
    unfolding verdict_at
    decided-there =
        let step : ℕ = length core.journal in
        let chosen : Picked = choice setup x in
        let rule = ap (λ (w : WalkState). w.rule) ready.walk in
        let limit : Option Verdict = step_limit setup x in
        let ended = ap (λ (b : Bool). cond b (Some Ended) None) (ap (λ (v : List Seen). eqb (count_by is_announcing v) 0) ready.view ∙ none-announcing setup x)
        ∙ unless-cause (list_any is_some x.words) Ended in
        let stuck = ap (λ (b : Bool). cond b (Some (Deadlock step)) None) (ap (λ (v : List Seen). eqb (length (able_threads v)) 0) ready.view ∙ none-able setup x)
        ∙ unless-cause (list_any is_able (seen_at setup x)) (Deadlock step) in
        let wrong = (λ i. option_map (wrong_verdict step) (wrong_of (ready.walk i) (ready.view i))) ∙ wrong-follows setup x ready.made in
        (λ i. stopped_or (first_of (other_than_asked step x.words (ready.view i) (asked_at (rule i) step) ∷ wrong i ∷ ended i ∷ limit ∷ stuck i
        ∷ left_over step x.words (asked_list (rule i)) ∷ [])) (next_picked step ((ap (λ (o : OnePick). o.picked) pick-there ∙ (picks-choices setup.rule).picks setup x ready.answered) i)))
        ∙ in-order step (other_than_asked step x.words (seen_at setup x) (asked_at setup.rule step)) (wrong_count setup x) (end_of_threads x) limit (deadlock setup x)
        (left_over step x.words (asked_list setup.rule)) chosen

    -- and a word while some are due
    decision-there : decision draws_s draws_o core running ≡ next_in setup core
    decision-there =
        let there : Next = next_after core running (pick_by draws_s draws_o running).picked in
        elim (cases_eq running.due 0) [
          | inl none ↦
              ap (λ (b : Bool). cond b Due there) (le-ltb 0 running.due (omega (arith, none)))
              ∙ decided-there
              ∙ ap (λ (b : Bool). cond b Due (next_by (verdict_at setup x) (choice setup x))) (sym (none-counted is_due core.words (sym ready.due ∙ none)))
          | inr some ↦
              ap (λ (b : Bool). cond b Due there) (lt-ltb 0 running.due (positive running.due some))
              ∙ ap (λ (b : Bool). cond b Due (next_by (verdict_at setup x) (choice setup x))) (sym (some-counted is_due core.words (λ e. some (ready.due ∙ e))))
        ]

    pub can-decide : IsKept setup core → IsDecidable core running
    unfolding seen_at
    can-decide kept =
        let seen : length running.view ≡ length core.words =
        ap (λ v. length v) ready.view ∙ length-map x.words (seen_word (world_at setup x) setup.selection) ∙ length-map core.words last_word in
        record {
          each = seen ∙ kept.each ∙ sym kept.valid.counted ∙ sym (ap (λ (w : WalkState). length w.counts) ready.walk);
          words = sym seen;
          few = omega (arith, kept.each, kept.valid.threads);
          last =
              if-some (last_thread core.journal) (λ thread. thread < length running.view)
              (λ thread is. let last = last-is setup core kept thread is in omega (arith, last.within, seen, length-map core.words last_word));
          right =
              if-some (last_thread core.journal) (NoOtherIsWrong running.walk running.view)
              (λ thread is. subst (λ w. NoOtherIsWrong w running.view thread) (sym ready.walk)
              (subst (λ v. NoOtherIsWrong (walk_at setup x) v thread) (sym ready.view) (last-is setup core kept thread is).others));
          seen = ap (list_any is_announcing) ready.view ∙ announcing-words (world_at setup x) setup.selection x.words;
          step = sym (ap (λ (w : WalkState). w.steps) ready.walk);
          short = kept.short;
          most = kept.valid.most;
          free = ap (λ (w : WalkState). w.waiting) ready.walk;
          chosen =
              subst (λ rule. AreChosenUnder rule running.view) (sym (ap (λ (w : WalkState). w.rule) ready.walk))
              (subst (λ v. AreChosenUnder setup.rule v) (sym ready.view) (chosen-under setup.rule (world_at setup x) setup.selection x.words kept.valid.every));
        }

    -- the core after it
    pub core-decided : IsKept setup core → (then : Running S O)
        → then.next ≡ decision draws_s draws_o core running
        → then.walk ≡ walk_then (is_drawn_at then.next) (pick_by draws_s draws_o running) running.walk
        → then.selected ≡ after_bounds draws_s running.selected (bounds_by (is_drawn_at then.next) (pick_by draws_s draws_o running).selected_bounds)
        → then.other ≡ after_bounds draws_o running.other (bounds_by (is_drawn_at then.next) (pick_by draws_s draws_o running).other_bounds)
        → then ≡ record running { walk = then.walk; selected = then.selected; other = then.other; next = then.next }
        → IsAbleNext running.view then.next → IsCore draws_s draws_o core then
    core-decided kept then next_is walk_is selected_is other_is rest able =
        let drawn : Bool = is_drawn_at then.next in
        record {
          kept = kept;
          decided = record {
            parts = record {
              world = ap (λ (r : Running S O). r.world) rest ∙ ready.world;
              due = ap (λ (r : Running S O). r.due) rest ∙ ready.due;
              view = ap (λ (r : Running S O). r.view) rest ∙ ready.view;
              walk = walk_is ∙ (λ i. walk_then drawn (pick-there i) (ready.walk i));
              made = ready.made;
              selected =
                  selected_is
                  ∙ (λ i. after_bounds draws_s (ready.selected i) (bounds_by drawn (pick-there i).selected_bounds))
                  ∙ ap (λ bounds. after_bounds draws_s (after_bounds draws_s core.opening.selected (selected_asked setup (earlier x))) (bounds_by drawn bounds))
                  ((picks-choices setup.rule).asks_selected setup x ready.answered)
                  ∙ asked-more draws_s core.opening.selected setup.selected.answers (λ bounds. refl) ((choices setup.rule).selected_at setup) (earlier x) x drawn ready.answered.selected;
              other =
                  other_is
                  ∙ (λ i. after_bounds draws_o (ready.other i) (bounds_by drawn (pick-there i).other_bounds))
                  ∙ ap (λ bounds. after_bounds draws_o (after_bounds draws_o core.opening.other (other_asked setup (earlier x))) (bounds_by drawn bounds))
                  ((picks-choices setup.rule).asks_other setup x ready.answered)
                  ∙ asked-more draws_o core.opening.other setup.other.answers (λ bounds. refl) ((choices setup.rule).other_at setup) (earlier x) x drawn ready.answered.other;
              answered = ready.answered;
              failed = ap (λ (r : Running S O). r.failed.items) rest ∙ ready.failed;
            };
            next = next_is ∙ decision-there;
            able = subst (λ v. IsAbleNext v then.next) (sym (ap (λ (r : Running S O). r.view) rest)) able;
          };
        }

    -- while a word is due, nothing is decided
    pub running-due : running.next ≡ Due → list_any is_due core.words ≡ true → IsRunning draws_s draws_o core running
    running-due next_is some = record {
      parts = subst (λ n. AreParts draws_s draws_o setup core (is_drawn_at n) running) (sym next_is) ready;
      next = next_is ∙ ap (λ (b : Bool). cond b Due (next_by (verdict_at setup x) (choice setup x))) (sym some);
      able = subst (λ n. IsAbleNext running.view n) (sym next_is) tt;
    }
