-- The size of a world stays.
use Rattle.std.proofs.Common.{◌≡◌, ℕ, List, [], ◌∷◌, refl, ◌∙◌}
use Rattle.event_class.specs.declared.event.Event.{Event}
use Rattle.event_class.specs.declared.event.Event.TheVariants.{Acquire, Release, Store, Add, SwapIf, Check}
use Rattle.test_world.specs.World.{WorldState, after}
use Rattle.run_rules.specs.declared.entry.Entry.{Entry}
use Rattle.run_rules.specs.Journal.{world_after}

pub size-step : (world : WorldState) (thread : ℕ) (event : Event) → (after world thread event).size ≡ world.size
size-step world thread (Acquire l) = refl
size-step world thread (Release l) = refl
size-step world thread (Store c v) = refl
size-step world thread (Add c v) = refl
size-step world thread (SwapIf c a b) = refl
size-step world thread (Check a b) = refl
size-step world thread _ = refl

pub size-after : (world : WorldState) (journal : List Entry) → (world_after world journal).size ≡ world.size
unfolding world_after
size-after world [] = refl
size-after world (entry ∷ entries) = size-after (after world entry.thread entry.event) entries ∙ size-step world entry.thread entry.event
