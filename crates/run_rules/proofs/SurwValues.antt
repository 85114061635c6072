-- What SURW keeps and asks in a run, worked out: a lock is held over a selected store.
use Rattle.std.proofs.Common.{◌≡◌, [], ◌∷◌, true, false, None, Some, refl}
use Rattle.draw_split.specs.Bag.{bag, pick}
use Rattle.event_class.specs.declared.event.Event.TheVariants.{Acquire, Release, Store}
use Rattle.event_class.specs.declared.pickable.Pickable.TheVariants.{CellNo}
use Rattle.seed_draws.specs.Answers.{answers}
use Rattle.seed_draws.specs.TapeSource.{loose_tape, strict_tape}
use Rattle.walk_rules.specs.declared.rule.Rule.TheVariants.{Plain}
use Rattle.walk_rules.specs.State.{new_memory}
use Rattle.run_rules.specs.EventsMade.{events_made}
use Rattle.run_rules.specs.Intention.{ending_prefixes, intended_after, intention_lefts}
use Rattle.run_rules.specs.NumbersLeft.{numbers_left}
use Rattle.run_rules.specs.Position.{Position, earlier, position_at}
use Rattle.run_rules.specs.Setup.{Setup}
use Rattle.run_rules.specs.SurwChoice.{is_due_after, surw_memory_at}
use Rattle.run_rules.proofs.IntentionSums.{intentions_asked}

-- the rule isn't looked at
abbrev setup : Setup
setup = record {
  size = record { cells = 1; locks = 1; frames = 0; pages = 0; slots = 0 };
  threads = 2;
  selection = CellNo 0 ∷ [];
  rule = Plain;
  counts = 1 ∷ 1 ∷ [];
  selected = strict_tape (1 ∷ 0 ∷ []);
  other = loose_tape (0 ∷ []);
  max_steps = 65536;
  monitors = [];
}

abbrev run : Position
run = record {
  journal =
      record { thread = 0; event = Acquire 0; reply = 0; forced = false }
      ∷ record { thread = 0; event = Store 0 5; reply = 0; forced = true }
      ∷ record { thread = 0; event = Release 0; reply = 0; forced = false }
      ∷ record { thread = 1; event = Acquire 0; reply = 0; forced = false }
      ∷ record { thread = 1; event = Store 0 6; reply = 0; forced = false }
      ∷ record { thread = 1; event = Release 0; reply = 0; forced = false }
      ∷ [];
  words = None ∷ None ∷ [];
}

-- the forced step leaves the intention
intention-kept : surw_memory_at setup (position_at run 2) ≡ record new_memory { intended = Some 1 }
unfolding intended_after intention_lefts ending_prefixes is_due_after position_at numbers_left events_made bag pick answers
intention-kept = refl

-- one draw was asked for so far, below the two events left at first
asked-once : intentions_asked setup (position_at run 4) ≡ 2 ∷ []
unfolding is_due_after earlier position_at numbers_left events_made
asked-once = refl

-- after the step that ends it no event is left, so no draw is asked for and no thread is intended
nothing-kept : surw_memory_at setup (position_at run 5) ≡ new_memory
unfolding intended_after intention_lefts ending_prefixes is_due_after position_at numbers_left events_made bag pick answers
nothing-kept = refl

nothing-asked : intentions_asked setup (position_at run 5) ≡ 2 ∷ []
unfolding is_due_after earlier position_at numbers_left events_made
nothing-asked = refl
