-- The journal and the words of a core after a word: the journal stands as it did.
use Rattle.std.proofs.Common.{◌≡◌, ℕ, zero, suc, ◌+◌, ◌-◌, ◌<◌, ◌≤◌, true, List, [], ◌∷◌, ◌++◌, length, map, take, set, Option, Some, refl, ap, sym, subst, ◌∙◌, arith}
use Rattle.std.proofs.lemmas.List.{length-set, length-take-le, map-set, take_all}
use Rattle.std.proofs.lemmas.Option.{get_or_from_slice_get, none-some, same_Some, slice_get_within}
use Rattle.std.proofs.lemmas.List.Folds.{list_any_at}
use Rattle.std.specs.List.{list_any, slice_get}
use Rattle.event_class.specs.declared.event.Event.{Event}
use Rattle.run_rules.specs.declared.entry.Entry.{Entry}
use Rattle.run_rules.specs.Position.{earlier, position_at}
use Rattle.run_rules.specs.Run.{GoesOnWith}
use Rattle.run_rules.specs.Setup.{Setup}
use Rattle.run_rules.proofs.Prefixes.{next-at}
use Rattle.run_rules.proofs.EarlierPositions.{map-range-same, position-again}
use Rattle.pure_run.specs.declared.word.Word.{Word}
use Rattle.pure_run.specs.declared.word.Word.TheVariants.{Due, Said}
use Rattle.pure_run.specs.Core.{CoreState, after_word, before_word, is_due, last_word, position}
use Rattle.pure_run.specs.Invariant.{IsKept, IsKeptEntry}
use Rattle.pure_run.proofs.Counts.{set-twice}

-- a position before the last entry doesn't depend on the word of that entry's thread
at-prefix : (prefix : List Entry) (entry : Entry) (words : List (Option Event)) (thread : ℕ) (word : Option Event) (k : ℕ)
    → thread ≡ entry.thread → k ≤ length prefix
    → position_at (record { journal = prefix ++ entry ∷ []; words = set words thread word }) k ≡ position_at (record { journal = prefix ++ entry ∷ []; words = words }) k
at-prefix prefix entry words thread word k same within =
    let before : List (Option Event) = set words entry.thread (Some entry.event) in
    let twice : set (set words thread word) entry.thread (Some entry.event) ≡ before =
    ap (λ t. set (set words t word) entry.thread (Some entry.event)) same ∙ set-twice words entry.thread word (Some entry.event) in
    position-again prefix entry before (set words thread word) k twice within
    ∙ sym (position-again prefix entry before words k refl within)

position-said : (journal : List Entry) (words : List (Option Event)) (thread : ℕ) (word : Option Event)
    → ((entry : Entry) → slice_get journal (length journal - 1) ≡ Some entry → thread ≡ entry.thread)
    → (k : ℕ) → k < length journal
    → position_at (record { journal = journal; words = set words thread word }) k ≡ position_at (record { journal = journal; words = words }) k
position-said journal words thread word last k within =
    let n : ℕ = length journal - 1 in
    let step = next-at journal n (omega (arith, within)) in
    let e : n + 1 ≡ length journal = omega (arith, within) in
    let whole : take n journal ++ step.item ∷ [] ≡ journal = sym step.cut ∙ ap (λ m. take m journal) e ∙ take_all (length journal) journal (omega arith) in
    let prefix : k ≤ length (take n journal) = omega (arith, within, length-take-le n journal (omega arith)) in
    subst (λ entries. position_at (record { journal = entries; words = set words thread word }) k ≡ position_at (record { journal = entries; words = words }) k)
    whole (at-prefix (take n journal) step.item words thread word k (last step.item step.there) prefix)

-- the word of no other thread becomes due
due-other : (words : List Word) (thread : ℕ) (event : Option Event) (other : ℕ) → slice_get (set words thread (Said event)) other ≡ Some Due → slice_get words other ≡ Some Due
due-other [] thread event other at = absurd (none-some Due at)
due-other (word ∷ words) zero event zero at = cc
due-other (word ∷ words) zero event (suc other) at = at
due-other (word ∷ words) (suc thread) event zero at = at
due-other (word ∷ words) (suc thread) event (suc other) at = due-other words thread event other at

-- a word that is due makes one that is
pub any-due : (words : List Word) (thread : ℕ) → slice_get words thread ≡ Some Due → list_any is_due words ≡ true
any-due words thread at =
    list_any_at is_due words thread Due (slice_get_within words thread Due at) (ap is_due (get_or_from_slice_get words thread Due Due at))

-- a thread that has said its word had it due before
set-there : (words : List Word) (thread : ℕ) (word other : Word) → slice_get words thread ≡ Some word → slice_get (set words thread other) thread ≡ Some other
set-there [] thread word other at = absurd (none-some word at)
set-there (w ∷ ws) zero word other at = refl
set-there (w ∷ ws) (suc thread) word other at = set-there ws thread word other at

set-back : (words : List Word) (thread : ℕ) (word other : Word) → slice_get words thread ≡ Some word → set (set words thread other) thread word ≡ words
set-back [] thread word other at = absurd (none-some word at)
set-back (w ∷ ws) zero word other at = ap (λ first. first ∷ ws) (sym (same_Some w word at))
set-back (w ∷ ws) (suc thread) word other at = ap (λ rest. w ∷ rest) (set-back ws thread word other at)

pub due-before : {S O : Type 0} (core : CoreState S O) (thread : ℕ) (event : Option Event) → slice_get core.words thread ≡ Some (Said event)
    → slice_get (before_word core thread).words thread ≡ Some Due
due-before core thread event said = set-there core.words thread (Said event) Due said

-- a core whose thread has said its word, before it
pub due-again : {S O : Type 0} (core : CoreState S O) (thread : ℕ) (event : Option Event) → slice_get core.words thread ≡ Some Due
    → before_word (after_word core thread event) thread ≡ core
due-again core thread event due = ap (λ words. record core { words = words }) (set-back core.words thread Due (Said event) due)

pub said-there : {S O : Type 0} (core : CoreState S O) (thread : ℕ) (event : Option Event) → slice_get core.words thread ≡ Some Due
    → slice_get (after_word core thread event).words thread ≡ Some (Said event)
said-there core thread event due = set-there core.words thread Due (Said event) due

-- and with its word it is the core that it is
pub word-again : {S O : Type 0} (core : CoreState S O) (thread : ℕ) (event : Option Event) → slice_get core.words thread ≡ Some (Said event)
    → after_word (before_word core thread) thread event ≡ core
word-again core thread event said = ap (λ words. record core { words = words }) (set-back core.words thread (Said event) Due said)

module _ {S O : Type 0} (setup : Setup) (core : CoreState S O) (thread : ℕ) (event : Option Event)
    (kept : IsKept setup core) (due : slice_get core.words thread ≡ Some Due) where
  abbrev next : CoreState S O
  next = after_word core thread event

  pub last-words : map last_word next.words ≡ set (map last_word core.words) thread event
  last-words = map-set last_word core.words thread (Said event)

  before : (k : ℕ) → k < length core.journal → position_at (position next) k ≡ position_at (position core) k
  before k within =
      ap (λ last. position_at (record { journal = core.journal; words = last }) k) last-words
      ∙ position-said core.journal (map last_word core.words) thread event (λ entry at. kept.last_due entry thread at due) k within

  pub same-earlier : earlier (position next) ≡ earlier (position core)
  unfolding earlier
  same-earlier = map-range-same (position_at (position next)) (position_at (position core)) (length core.journal) before

  pub kept-word : IsKept setup next
  kept-word = record {
    valid = kept.valid;
    each = length-set core.words thread (Said event) ∙ kept.each;
    short = kept.short;
    entries = λ k entry at. subst (λ x. IsKeptEntry setup x entry) (sym (before k (slice_get_within core.journal k entry at))) (kept.entries k entry at);
    going = λ k entry at. subst (λ x. GoesOnWith setup x entry) (sym (before k (slice_get_within core.journal k entry at))) (kept.going k entry at);
    last_due = λ entry other at now. kept.last_due entry other at (due-other core.words thread event other now);
  }
