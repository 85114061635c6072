-- Where a thread is able: it has a word, and its event is enabled.
use Rattle.std.proofs.Common.{◌≡◌, ℕ, ◌<◌, Bool, true, false, cond, IsTrue, List, length, get_or, Option, None, Some, refl, ap, sym, ◌∙◌, inl, inr, arith}
use Rattle.std.proofs.Math.ListN.{get_or-map}
use Rattle.std.proofs.lemmas.Bool.{cases_lt, false≢true}
use Rattle.std.proofs.lemmas.List.{get_or_default, get_or_past, length-map}
use Rattle.std.proofs.lemmas.List.Folds.{Any-from_list_any}
use Rattle.std.proofs.lemmas.List.Sums.{sum_by_more_le}
use Rattle.std.proofs.lemmas.Option.{none-some}
use Rattle.event_class.specs.declared.event.Event.{Event}
use Rattle.event_class.specs.declared.pickable.Pickable.{Pickable}
use Rattle.test_world.specs.World.{WorldState, is_enabled}
use Rattle.walk_rules.specs.declared.seen.Seen.{Seen}
use Rattle.walk_rules.specs.declared.seen.Seen.TheVariants.{Over, Held, Able}
use Rattle.walk_rules.specs.Seen.{able_threads, is_able, seen_of}
use Rattle.walk_rules.proofs.AbleThreads.{length-able}
use Rattle.run_rules.specs.Position.{Position, world_at, seen_word, seen_at}
use Rattle.run_rules.specs.Setup.{Setup}
use Rattle.run_rules.specs.Verdict.{deadlock}
use Rattle.run_rules.proofs.Verdicts.{deadlock-none}

-- what is seen of a thread is that of its word
pub seen-at : (setup : Setup) (x : Position) (thread : ℕ)
    → seen_of (seen_at setup x) thread ≡ seen_word (world_at setup x) setup.selection (get_or x.words thread None)
unfolding seen_at
seen-at setup x thread = get_or-map (seen_word (world_at setup x) setup.selection) x.words thread None

-- an able thread has a word, whose event is enabled
pub record HasWord (setup : Setup) (x : Position) (thread : ℕ) : Type 0 where
  pub event : Event
  pub word : get_or x.words thread None ≡ Some event
  pub enabled : IsTrue (is_enabled (world_at setup x) event)
  pub within : thread < length x.words

-- an event that is seen as able
record IsSeenAble (world : WorldState) (word : Option Event) : Type 0 where
  event : Event
  is : word ≡ Some event
  enabled : IsTrue (is_enabled world event)

held-or-able : (enabled chosen : Bool) → is_able (cond enabled (Able chosen) (Held chosen)) ≡ true → enabled ≡ true
held-or-able true chosen able = refl
held-or-able false chosen able = able

able-word : (world : WorldState) (selection : List Pickable) (word : Option Event) → is_able (seen_word world selection word) ≡ true → IsSeenAble world word
able-word world selection None able = absurd (false≢true able)
able-word world selection (Some event) able = record { event = event; is = refl; enabled = held-or-able (is_enabled world event) _ able }

words-within : {A : Type 0} (words : List (Option A)) (thread : ℕ) (event : A) → get_or words thread None ≡ Some event → thread < length words
words-within words thread event word = elim (cases_lt thread (length words)) [
  | inl within ↦ within
  | inr past ↦ absurd (none-some event (sym (get_or_past words thread None past) ∙ word))
]

pub has-word : (setup : Setup) (x : Position) (thread : ℕ) → IsTrue (is_able (seen_of (seen_at setup x) thread)) → HasWord setup x thread
has-word setup x thread able =
    let seen = able-word (world_at setup x) setup.selection (get_or x.words thread None) (ap is_able (sym (seen-at setup x thread)) ∙ able) in
    record { event = seen.event; word = seen.is; enabled = seen.enabled; within = words-within x.words thread seen.event seen.is }

-- there are as many seen as words
pub length-seen : (setup : Setup) (x : Position) → length (seen_at setup x) ≡ length x.words
unfolding seen_at
length-seen setup x = length-map x.words (seen_word (world_at setup x) setup.selection)

-- where a thread is able there is one among the able threads
pub able-some : (view : List Seen) (thread : ℕ) → thread < length view → is_able (seen_of view thread) ≡ true → 0 < length (able_threads view)
able-some view thread within able =
    let one : cond {A = ℕ} (is_able (seen_of view thread)) 1 0 ≡ 1 = ap (λ (b : Bool). cond {A = ℕ} b 1 0) able in
    omega (arith, one, length-able view, sum_by_more_le (λ seen. cond (is_able seen) 1 0) view thread Over within)

-- where there is no deadlock some thread is able
pub record HasAble (setup : Setup) (x : Position) : Type 0 where
  pub thread : ℕ
  pub able : IsTrue (is_able (seen_of (seen_at setup x) thread))

pub some-able : (setup : Setup) (x : Position) → deadlock setup x ≡ None → HasAble setup x
some-able setup x none =
    let any = Any-from_list_any is_able (seen_at setup x) (deadlock-none setup x none) in
    record { thread = any.0; able = ap is_able (get_or_default (seen_at setup x) any.0 Over any.1 any.2 ∙ any.3) ∙ any.4 }
