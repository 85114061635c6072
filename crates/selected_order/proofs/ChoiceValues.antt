-- The choices of some runs, by the definitions: the lost update, its longer form, and a lock that is held over a selected store.
use Rattle.std.proofs.Common.{◌≡◌, ℕ, List, [], ◌∷◌, true, false, map, None, Some, refl}
use Rattle.std.specs.List.{range_with_len}
use Rattle.draw_split.specs.Bag.{bag, pick}
use Rattle.seed_draws.specs.declared.draw_fault.DrawFault.TheVariants.{Short}
use Rattle.seed_draws.specs.Answers.{answers}
use Rattle.seed_draws.specs.TapeSource.{loose_tape, strict_tape}
use Rattle.event_class.specs.declared.event.Class.TheVariants.{Cell}
use Rattle.event_class.specs.declared.event.Event.{Event}
use Rattle.event_class.specs.declared.event.Event.TheVariants.{Acquire, Release, Load, Store, Add}
use Rattle.event_class.specs.declared.pickable.Pickable.{Pickable}
use Rattle.event_class.specs.declared.pickable.Pickable.TheVariants.{Of, CellNo}
use Rattle.walk_rules.specs.declared.picked.Picked.{Picked}
use Rattle.walk_rules.specs.declared.picked.Picked.TheVariants.{Grant, Stop}
use Rattle.walk_rules.specs.declared.rule.Rule.TheVariants.{Surw}
use Rattle.walk_rules.specs.Seen.{able_threads}
use Rattle.walk_rules.specs.Surw.{narrow}
use Rattle.run_rules.specs.declared.entry.Entry.{Entry}
use Rattle.run_rules.specs.declared.verdict.Verdict.TheVariants.{Ended}
use Rattle.run_rules.specs.EventsMade.{events_made}
use Rattle.run_rules.specs.Intention.{ending_prefixes, intention_lefts, intended_after}
use Rattle.run_rules.specs.Journal.{world_after}
use Rattle.run_rules.specs.NumbersLeft.{numbers_left}
use Rattle.run_rules.specs.Position.{Position, words_before, position_at, earlier, seen_at}
use Rattle.run_rules.specs.RuleChoice.{choice}
use Rattle.run_rules.specs.Setup.{Setup}
use Rattle.run_rules.specs.SurwChoice.{surw_choice, is_due_after}
use Rattle.run_rules.specs.Verdict.{verdict_at}

surw_setup : ℕ → ℕ → List Pickable → List ℕ → List ℕ → List ℕ → Setup
surw_setup cells locks selection counts selected other = record {
  size = record { cells = cells; locks = locks; frames = 0; pages = 0; slots = 0 };
  threads = 2;
  selection = selection;
  rule = Surw;
  counts = counts;
  selected = strict_tape selected;
  other = loose_tape other;
  max_steps = 100;
  monitors = [];
}

-- an entry that isn't forced
free : ℕ → Event → ℕ → Entry
free thread event reply = record { thread = thread; event = event; reply = reply; forced = false }

-- the position at the end of a run in which two threads ended
ended_with : List Entry → Position
ended_with journal = record { journal = journal; words = None ∷ None ∷ [] }

choices : Setup → Position → ℕ → List Picked
choices setup x n = map (λ k. choice setup (position_at x k)) (range_with_len 0 n)

lost_update : Position
lost_update = ended_with (free 0 (Load 0) 0 ∷ free 1 (Load 0) 0 ∷ free 0 (Store 0 1) 0 ∷ free 1 (Store 0 1) 0 ∷ [])

lost_update-choices : choices (surw_setup 1 0 (Of Cell ∷ []) (2 ∷ 2 ∷ []) (0 ∷ 1 ∷ 0 ∷ 0 ∷ []) []) lost_update 4
    ≡ Grant 0 false ∷ Grant 1 false ∷ Grant 0 false ∷ Grant 1 false ∷ []
unfolding choices lost_update ended_with free surw_setup surw_choice is_due_after intended_after intention_lefts ending_prefixes
    narrow answers able_threads bag pick numbers_left events_made earlier position_at words_before seen_at world_after
lost_update-choices = refl

lost_update-ended : verdict_at (surw_setup 1 0 (Of Cell ∷ []) (2 ∷ 2 ∷ []) (0 ∷ 1 ∷ 0 ∷ 0 ∷ []) []) lost_update ≡ Some Ended
unfolding verdict_at lost_update ended_with free surw_setup events_made numbers_left
lost_update-ended = refl

-- three unselected adds before each load: the loads and stores of cell 0 alone are selected
longer : Position
longer = ended_with
    (free 1 (Add 1 1) 0 ∷ free 1 (Add 1 1) 1 ∷ free 1 (Add 1 1) 2
    ∷ free 0 (Add 1 1) 3 ∷ free 0 (Add 1 1) 4 ∷ free 0 (Add 1 1) 5 ∷ free 0 (Load 0) 0
    ∷ free 1 (Load 0) 0 ∷ free 0 (Store 0 1) 0 ∷ free 1 (Store 0 1) 0 ∷ [])

longer-choices : choices (surw_setup 2 0 (CellNo 0 ∷ []) (2 ∷ 2 ∷ []) (0 ∷ 1 ∷ 0 ∷ 0 ∷ []) (1 ∷ 1 ∷ 1 ∷ [])) longer 10
    ≡ Grant 1 false ∷ Grant 1 false ∷ Grant 1 false ∷ Grant 0 false ∷ Grant 0 false ∷ Grant 0 false ∷ Grant 0 false
    ∷ Grant 1 false ∷ Grant 0 false ∷ Grant 1 false ∷ []
unfolding choices longer ended_with free surw_setup surw_choice is_due_after intended_after intention_lefts ending_prefixes
    narrow answers able_threads bag pick numbers_left events_made earlier position_at words_before seen_at world_after
longer-choices = refl

-- the lock is held over the selected store, so it is forced, and thread 1 stays intended
held_lock : Position
held_lock = ended_with
    (free 0 (Acquire 0) 0 ∷ record { thread = 0; event = Store 0 5; reply = 0; forced = true } ∷ free 0 (Release 0) 0
    ∷ free 1 (Acquire 0) 0 ∷ free 1 (Store 0 6) 0 ∷ free 1 (Release 0) 0 ∷ [])

held_lock-choices : choices (surw_setup 1 1 (CellNo 0 ∷ []) (1 ∷ 1 ∷ []) (1 ∷ 0 ∷ []) (0 ∷ [])) held_lock 6
    ≡ Grant 0 false ∷ Grant 0 true ∷ Grant 0 false ∷ Grant 1 false ∷ Grant 1 false ∷ Grant 1 false ∷ []
unfolding choices held_lock ended_with free surw_setup surw_choice is_due_after intended_after intention_lefts ending_prefixes
    narrow answers able_threads bag pick numbers_left events_made earlier position_at words_before seen_at world_after
held_lock-choices = refl

-- thread 1 is intended while thread 0 is forced, and stays so: its store is the next selected event, though the next draw would
-- intend thread 0
kept_intention : Position
kept_intention = ended_with
    (free 0 (Acquire 0) 0 ∷ record { thread = 0; event = Store 0 5; reply = 0; forced = true } ∷ free 0 (Release 0) 0
    ∷ free 1 (Acquire 0) 0 ∷ free 1 (Store 0 6) 0 ∷ free 0 (Store 0 7) 0 ∷ free 1 (Release 0) 0 ∷ [])

kept_intention-choices : choices (surw_setup 1 1 (CellNo 0 ∷ []) (2 ∷ 1 ∷ []) (2 ∷ 0 ∷ 0 ∷ []) (0 ∷ [])) kept_intention 7
    ≡ Grant 0 false ∷ Grant 0 true ∷ Grant 0 false ∷ Grant 1 false ∷ Grant 1 false ∷ Grant 0 false ∷ Grant 1 false ∷ []
unfolding choices kept_intention ended_with free surw_setup surw_choice is_due_after intended_after intention_lefts ending_prefixes
    narrow answers able_threads bag pick numbers_left events_made earlier position_at words_before seen_at world_after
kept_intention-choices = refl

-- a short selected tape stops where an intention is drawn, not before
short_tape-choices : choices (surw_setup 1 0 (Of Cell ∷ []) (2 ∷ 2 ∷ []) (0 ∷ 1 ∷ 0 ∷ []) []) lost_update 4
    ≡ Grant 0 false ∷ Grant 1 false ∷ Grant 0 false ∷ Stop (Short 3) ∷ []
unfolding choices lost_update ended_with free surw_setup surw_choice is_due_after intended_after intention_lefts ending_prefixes
    narrow answers able_threads bag pick numbers_left events_made earlier position_at words_before seen_at world_after
short_tape-choices = refl
