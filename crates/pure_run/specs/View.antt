-- What is seen of the threads after an event, from what was seen before it.
use Rattle.std.specs.Prelude.{◌≡◌, ℕ, ◌==◌, Bool, false, List, map, Option, None, Some, if◌then◌else◌}
use Rattle.event_class.specs.declared.event.Event.{Event}
use Rattle.event_class.specs.declared.event.Event.TheVariants.{Acquire, Release}
use Rattle.event_class.specs.declared.pickable.Pickable.{Pickable}
use Rattle.test_world.specs.World.{WorldState, after}
use Rattle.walk_rules.specs.declared.seen.Seen.{Seen}
use Rattle.walk_rules.specs.declared.seen.Seen.TheVariants.{Over, Held, Able}
use Rattle.run_rules.specs.Position.{seen_word}

-- the lock of an event
abbrev pub lock_of : Event → Option ℕ
lock_of (Acquire l) = Some l
lock_of (Release l) = Some l
lock_of _ = None

-- whether a word is the acquire of a lock
abbrev pub is_acquire : ℕ → Option Event → Bool
is_acquire lock (Some (Acquire l)) = l == lock
is_acquire lock _ = false

-- what is seen of a thread whose event is enabled now, or isn't
abbrev pub seen_now : Bool → Seen → Seen
seen_now enabled Over = Over
seen_now enabled (Held chosen) = if enabled then Able chosen else Held chosen
seen_now enabled (Able chosen) = if enabled then Able chosen else Held chosen

-- what is seen of a thread with this word, where the acquire of a lock is enabled now, or isn't
abbrev pub seen_again : ℕ → Bool → Option Event → Seen → Seen
seen_again lock enabled word seen = if is_acquire lock word then seen_now enabled seen else seen

-- where a view of some words is of a world, the next one is of the world after an event
abbrev pub FollowsEvent : WorldState → Event → List (Option Event) → List Seen → List Seen → Type 0
FollowsEvent now event words view next =
    (world : WorldState) (thread : ℕ) (selection : List Pickable) → now ≡ after world thread event
    → view ≡ map (seen_word world selection) words → next ≡ map (seen_word now selection) words
