-- What is seen of the threads, and how it changes.
use Rattle.std.proofs.Common.{◌≡◌, ◌≢◌, ℕ, ◌+◌, ◌==◌, ◌<◌, ◌≤◌, Bool, true, false, cond, List, length, get_or, map, set, Option, None, Some, is_none, refl, ap, sym, subst, ◌∙◌, inl, inr, arith, below_more}
use Rattle.std.proofs.lemmas.Bool.{cases_eq, cond-true, cond-false, eq-eqb, ne_eqb}
use Rattle.std.proofs.lemmas.List.{ext_get_or, get_or-map, get_or-set_same, get_or-set_other, length-map, length-set, map-set}
use Rattle.std.proofs.lemmas.Option.{none-some, same_Some}
use Rattle.event_class.specs.declared.event.Event.{Event}
use Rattle.event_class.specs.declared.event.Event.TheVariants.{Acquire, Release}
use Rattle.event_class.specs.declared.pickable.Pickable.{Pickable}
use Rattle.event_class.specs.Selection.{has}
use Rattle.test_world.specs.World.{WorldState, after, is_free, is_held_by}
use Rattle.walk_rules.specs.declared.seen.Seen.{Seen}
use Rattle.walk_rules.specs.declared.seen.Seen.TheVariants.{Over, Held, Able}
use Rattle.run_rules.specs.Position.{seen_word}
use Rattle.pure_run.specs.declared.word.Word.{Word}
use Rattle.pure_run.specs.declared.word.Word.TheVariants.{Due}
use Rattle.pure_run.specs.Core.{last_word}
use Rattle.pure_run.specs.View.{FollowsEvent, is_acquire, lock_of, seen_again, seen_now}

-- a view that is so thread by thread
pub all-seen : (world : WorldState) (selection : List Pickable) (view : List Seen) (words : List Word)
    → length view ≡ length words
    → ((k : ℕ) → k < length words → get_or view k Over ≡ seen_word world selection (last_word (get_or words k Due)))
    → view ≡ map (seen_word world selection) (map last_word words)
all-seen world selection view words long each =
    ext_get_or Over view (map (seen_word world selection) (map last_word words))
    (long ∙ sym (length-map (map last_word words) (seen_word world selection) ∙ length-map words last_word))
    (λ k below.
    let within : k < length words = omega (arith, long) in
    each k within
    ∙ sym (get_or-map (seen_word world selection) (map last_word words) k None Over (omega (arith, length-map words last_word))
    ∙ ap (seen_word world selection) (get_or-map last_word words k Due None within)))

-- ---- the threads that are looked at again

-- those before this one were, where they announce the acquire of a lock, and no other was
pub record AreSeenAgain (lock : ℕ) (enabled : Bool) (words : List Word) (view now : List Seen) (thread : ℕ) : Type 0 where
  pub long : length now ≡ length words
  pub seen : (k : ℕ) → k < thread → get_or now k Over ≡ seen_again lock enabled (last_word (get_or words k Due)) (get_or view k Over)
  pub rest : (k : ℕ) → thread ≤ k → get_or now k Over ≡ get_or view k Over

module _ (lock : ℕ) (enabled : Bool) (words : List Word) (view : List Seen) where
  pub again-first : length view ≡ length words → AreSeenAgain lock enabled words view view 0
  again-first long = record { long = long; seen = λ k lt. absurd (omega (arith, lt)); rest = λ k lt. refl }

  module _ (now : List Seen) (thread : ℕ) (are : AreSeenAgain lock enabled words view now thread) where
    abbrev acquires : Bool
    acquires = is_acquire lock (last_word (get_or words thread Due))

    -- one that announces it
    pub again-set : thread < length words → acquires ≡ true → (place : ℕ) (seen : Seen) → place ≡ thread → seen ≡ seen_now enabled (get_or now thread Over)
        → AreSeenAgain lock enabled words view (set now place seen) (thread + 1)
    again-set lt is place seen place_is seen_is =
        let listed : thread < length now = omega (arith, lt, are.long) in
        let here : get_or (set now thread seen) thread Over ≡ seen_again lock enabled (last_word (get_or words thread Due)) (get_or view thread Over) =
        get_or-set_same now thread seen Over listed ∙ seen_is ∙ ap (seen_now enabled) (are.rest thread (omega arith))
        ∙ sym (cond-true acquires (seen_now enabled (get_or view thread Over)) (get_or view thread Over) is) in
        let done : AreSeenAgain lock enabled words view (set now thread seen) (thread + 1) = record {
          long = length-set now thread seen ∙ are.long;
          seen = below_more (λ k. get_or (set now thread seen) k Over ≡ seen_again lock enabled (last_word (get_or words k Due)) (get_or view k Over)) thread
              (λ k lt. get_or-set_other now thread k seen Over (λ e. omega (arith, e, lt)) ∙ are.seen k lt) here;
          rest = λ k past. get_or-set_other now thread k seen Over (λ e. omega (arith, e, past)) ∙ are.rest k (omega (arith, past));
        } in
        subst (λ n. AreSeenAgain lock enabled words view (set now n seen) (thread + 1)) (sym place_is) done

    -- and any other
    pub again-kept : acquires ≡ false → AreSeenAgain lock enabled words view now (thread + 1)
    again-kept is = record {
      long = are.long;
      seen = below_more (λ k. get_or now k Over ≡ seen_again lock enabled (last_word (get_or words k Due)) (get_or view k Over)) thread are.seen
          (are.rest thread (omega arith) ∙ sym (cond-false acquires (seen_now enabled (get_or view thread Over)) (get_or view thread Over) is));
      rest = λ k past. are.rest k (omega (arith, past));
    }

-- ---- the world after an event

-- the locks after an event of one of them are free as before, but for this one
free-other : (locks : List (Option ℕ)) (lock other : ℕ) (holder : Option ℕ) → other ≢ lock → is_free (set locks lock holder) other ≡ is_free locks other
free-other locks lock other holder differ = ap is_none (get_or-set_other locks lock other holder None differ)

free-released : (held : Bool) (locks : List (Option ℕ)) (lock other : ℕ) → other ≢ lock → is_free (cond held (set locks lock None) locks) other ≡ is_free locks other
free-released true locks lock other differ = free-other locks lock other None differ
free-released false locks lock other differ = refl

free-after : (world : WorldState) (thread : ℕ) (event : Event) (lock other : ℕ) → lock_of event ≡ Some lock → other ≢ lock
    → is_free (after world thread event).locks other ≡ is_free world.locks other
free-after world thread (Acquire l) lock other of differ = free-other world.locks l other (Some thread) (λ e. differ (e ∙ same_Some l lock of))
free-after world thread (Release l) lock other of differ =
    free-released (is_held_by world.locks thread l) world.locks l other (λ e. differ (e ∙ same_Some l lock of))
free-after world thread _ lock other of differ = absurd (none-some lock of)

-- what is seen of a thread again is what is seen of it in the world after the event
again-either : (enabled before chosen : Bool) → seen_now enabled (cond before (Able chosen) (Held chosen)) ≡ cond enabled (Able chosen) (Held chosen)
again-either enabled true chosen = refl
again-either enabled false chosen = refl

again-word : (world : WorldState) (thread : ℕ) (event : Event) (lock : ℕ) → lock_of event ≡ Some lock → (selection : List Pickable) (word : Option Event)
    → seen_again lock (is_free (after world thread event).locks lock) word (seen_word world selection word) ≡ seen_word (after world thread event) selection word
again-word world thread event lock of selection None = refl
again-word world thread event lock of selection (Some (Acquire l)) =
    let locks : List (Option ℕ) = (after world thread event).locks in
    let chosen : Bool = has selection (Acquire l) in
    let seen : Seen = cond (is_free world.locks l) (Able chosen) (Held chosen) in
    elim (cases_eq l lock) [
      | inl same ↦
          cond-true (l == lock) (seen_now (is_free locks lock) seen) seen (eq-eqb l lock same)
          ∙ again-either (is_free locks lock) (is_free world.locks l) chosen
          ∙ ap (λ n. cond (is_free locks n) (Able chosen) (Held chosen)) (sym same)
      | inr differ ↦
          cond-false (l == lock) (seen_now (is_free locks lock) seen) seen (ne_eqb l lock differ)
          ∙ ap (λ (free : Bool). cond free (Able chosen) (Held chosen)) (sym (free-after world thread event lock l of differ))
    ]
again-word world thread event lock of selection (Some _) = refl

-- so a look at those that announce the acquire of its lock is enough
pub follows-lock : (now : WorldState) (event : Event) (lock : ℕ) → lock_of event ≡ Some lock → (words : List Word) (view next : List Seen)
    → length view ≡ length words → length next ≡ length view
    → ((k : ℕ) → k < length words → get_or next k Over ≡ seen_again lock (is_free now.locks lock) (last_word (get_or words k Due)) (get_or view k Over))
    → FollowsEvent now event (map last_word words) view next
follows-lock now event lock of words view next long same each = λ world thread selection now_is view_is.
    all-seen now selection next words (same ∙ long)
    (λ k below.
    let word : Option Event = last_word (get_or words k Due) in
    let before : get_or view k Over ≡ seen_word world selection word =
    ap (λ v. get_or v k Over) view_is
    ∙ get_or-map (seen_word world selection) (map last_word words) k None Over (omega (arith, below, length-map words last_word))
    ∙ ap (seen_word world selection) (get_or-map last_word words k Due None below) in
    each k below
    ∙ ap (seen_again lock (is_free now.locks lock) word) before
    ∙ ap (λ w. seen_again lock (is_free w.locks lock) word (seen_word world selection word)) now_is
    ∙ again-word world thread event lock of selection word
    ∙ ap (λ w. seen_word w selection word) (sym now_is))

-- the word of one thread becomes due
pub seen-set : (world : WorldState) (selection : List Pickable) (words : List Word) (thread : ℕ)
    → set (map (seen_word world selection) (map last_word words)) thread Over ≡ map (seen_word world selection) (map last_word (set words thread Due))
seen-set world selection words thread =
    sym (map-set (seen_word world selection) (map last_word words) thread None)
    ∙ ap (λ last. map (seen_word world selection) last) (sym (map-set last_word words thread Due))
