-- A script of which all that the theorem asks holds: two threads that each load a cell and store a sum of what they read.
use Rattle.std.proofs.Common.{◌≡◌, ℕ, zero, suc, ◌≤◌, ◌<◌, true, IsTrue, List, [], ◌∷◌, length, get_or, Option, None, Some, refl, subst, arith}
use Rattle.std.proofs.lemmas.Option.{none-some, same_Some}
use Rattle.std.specs.List.{count_by}
use Rattle.std.specs.Option.{IsSome}
use Rattle.std.specs.Str.{bytes_eq}
use Rattle.draw_split.specs.AllDraws.{all_draws, factorial, factorials}
use Rattle.surw_base.specs.Number.{wrapping_sum}
use Rattle.draw_split.specs.DrawList.{IsDrawList}
use Rattle.draw_split.specs.Rooms.{Fits}
use Rattle.seed_draws.specs.TapeSource.{loose_tape, strict_tape}
use Rattle.event_class.specs.declared.event.Class.TheVariants.{Cell}
use Rattle.event_class.specs.declared.event.Event.{Event}
use Rattle.event_class.specs.declared.event.Event.TheVariants.{Load, Store}
use Rattle.event_class.specs.declared.pickable.Pickable.TheVariants.{Of}
use Rattle.event_class.specs.Selection.{has}
use Rattle.test_world.specs.World.{WorldState, is_enabled}
use Rattle.walk_rules.specs.declared.rule.Rule.TheVariants.{Surw}
use Rattle.run_rules.specs.declared.entry.Entry.{Entry}
use Rattle.run_rules.specs.EventsMade.{selected_order}
use Rattle.run_rules.specs.Run.{IsRunJournal}
use Rattle.run_rules.specs.Setup.{Script}
use Rattle.selected_order.specs.EveryOrder.{with_tapes}
use Rattle.selected_order.specs.SurwScript.{IsTame}
use Rattle.selected_order.proofs.CountedAnnouncements.{AnnouncesCounts, announces-counts-tame}
use Rattle.selected_order.proofs.EveryOrder.{orders-come-equally-often}

-- a load, and a store of one more than it read
abbrev add_one : List ℕ → Option Event
add_one [] = Some (Load 0)
add_one (read ∷ []) = Some (Store 0 (wrapping_sum read 1))
add_one _ = None

abbrev two_say : ℕ → List ℕ → Option Event
two_say zero replies = add_one replies
two_say (suc zero) replies = add_one replies
two_say _ replies = None

-- the lost update under SURW
abbrev two_threads : Script
two_threads = record {
  setup = record {
    size = record { cells = 1; locks = 0; frames = 0; pages = 0; slots = 0 };
    threads = 2;
    selection = Of Cell ∷ [];
    rule = Surw;
    counts = 2 ∷ 2 ∷ [];
    selected = strict_tape (0 ∷ 1 ∷ 0 ∷ 0 ∷ []);
    other = loose_tape [];
    max_steps = 65536;
    monitors = [];
  };
  says = two_say;
}

one-going : (replies : List ℕ) → length replies < 2 → IsSome (add_one replies)
one-going [] fewer = refl
one-going (read ∷ []) fewer = refl
one-going (read ∷ stored ∷ rest) fewer = absurd (omega (arith, fewer))

one-over : (replies : List ℕ) → 2 ≤ length replies → add_one replies ≡ None
one-over [] enough = absurd (omega (arith, enough))
one-over (read ∷ []) enough = absurd (omega (arith, enough))
one-over (read ∷ stored ∷ rest) enough = refl

-- what is known of each event that a thread announces
record IsOfCell (event : Event) : Type 0 where
  selected : has (Of Cell ∷ []) event ≡ true
  free : (world : WorldState) → IsTrue (is_enabled world event)

one-says : (replies : List ℕ) (event : Event) → add_one replies ≡ Some event → IsOfCell event
one-says [] event is = subst IsOfCell (same_Some (Load 0) event is) (record { selected = refl; free = λ world. refl })
one-says (read ∷ []) event is =
    subst IsOfCell (same_Some (Store 0 (wrapping_sum read 1)) event is) (record { selected = refl; free = λ world. refl })
one-says (read ∷ stored ∷ rest) event is = absurd (none-some event is)

two-says : (thread : ℕ) (replies : List ℕ) (event : Event) → two_say thread replies ≡ Some event → IsOfCell event
two-says zero replies event is = one-says replies event is
two-says (suc zero) replies event is = one-says replies event is
two-says (suc (suc thread)) replies event is = absurd (none-some event is)

two-going : (thread : ℕ) (replies : List ℕ) → length replies < get_or (2 ∷ 2 ∷ []) thread 0 → IsSome (two_say thread replies)
two-going zero replies fewer = one-going replies fewer
two-going (suc zero) replies fewer = one-going replies fewer
two-going (suc (suc thread)) replies fewer = absurd (omega (arith, fewer))

two-over : (thread : ℕ) (replies : List ℕ) → get_or (2 ∷ 2 ∷ []) thread 0 ≤ length replies → two_say thread replies ≡ None
two-over zero replies enough = one-over replies enough
two-over (suc zero) replies enough = one-over replies enough
two-over (suc (suc thread)) replies enough = refl

two-announce-counts : AnnouncesCounts two_threads
two-announce-counts = record {
  counted = refl;
  going = two-going;
  over = two-over;
  selected = λ thread replies event is. (two-says thread replies event is).selected;
  free = λ thread replies event is. (two-says thread replies event is).free;
  short = omega arith;
}

pub two-threads-tame : IsTame two_threads
two-threads-tame = announces-counts-tame two_threads two-announce-counts

-- so, with any other tape for each draw list, each order of two events a thread comes on 4 draw lists
pub two-threads-often : (others_of : List ℕ → List ℕ) (journal_of : List ℕ → List Entry)
    → ((draws : List ℕ) → IsDrawList (2 ∷ 2 ∷ []) draws → IsRunJournal (with_tapes two_threads draws (others_of draws)) (journal_of draws))
    → (order : List ℕ) → Fits (2 ∷ 2 ∷ []) order
    → count_by (λ draws. bytes_eq (selected_order (Of Cell ∷ []) (journal_of draws)) order) (all_draws (2 ∷ 2 ∷ [])) ≡ 4
unfolding factorials factorial
two-threads-often others_of journal_of runs order fits =
    orders-come-equally-often two_threads refl two-threads-tame others_of journal_of runs order fits
