-- The journal and the words of a core after a step.
use Rattle.std.proofs.Common.{◌≡◌, ℕ, zero, suc, ◌+◌, ◌-◌, ◌<◌, ◌≤◌, ◌⊎◌, List, [], ◌∷◌, ◌++◌, length, get_or, map, set, None, Some, refl, ap, sym, subst, ◌∙◌, inl, inr, arith}
use Rattle.std.proofs.lemmas.Bool.{false≢true}
use Rattle.std.proofs.lemmas.List.{get_or-map, get_or-set_same, length-append, length-set, map-set, set-get_or}
use Rattle.std.proofs.lemmas.Option.{get_or_from_slice_get, slice_get-get_or, slice_get_within}
use Rattle.std.specs.List.{slice_get}
use Rattle.run_rules.specs.declared.entry.Entry.{Entry}
use Rattle.run_rules.specs.Position.{Position, earlier, position_at}
use Rattle.run_rules.specs.Run.{GoesOnWith}
use Rattle.run_rules.specs.Setup.{Setup}
use Rattle.run_rules.proofs.Prefixes.{more-item}
use Rattle.run_rules.proofs.EarlierPositions.{earlier-more, position-again, position-here}
use Rattle.pure_run.specs.declared.word.Word.{Word}
use Rattle.pure_run.specs.declared.word.Word.TheVariants.{Due, Said}
use Rattle.pure_run.specs.Core.{CoreState, IsStep, after_entry, last_word, position}
use Rattle.pure_run.specs.Invariant.{IsKept, IsKeptEntry}
use Rattle.pure_run.proofs.Counts.{set-twice}
use Rattle.pure_run.proofs.Grant.{room}
use Rattle.pure_run.proofs.WordJournal.{any-due}

-- the word of one thread alone is due
due-here : (words : List Word) (thread other : ℕ) → slice_get (set words thread Due) other ≡ Some Due → (slice_get words other ≡ Some Due) ⊎ (other ≡ thread)
due-here [] thread other at = inl at
due-here (word ∷ words) zero zero at = inr refl
due-here (word ∷ words) zero (suc other) at = inl at
due-here (word ∷ words) (suc thread) zero at = inl at
due-here (word ∷ words) (suc thread) (suc other) at = elim (due-here words thread other at) [ inl before ↦ inl before | inr same ↦ inr (ap suc same) ]

-- the last item of a list with one more
last-item : {X : Type 0} (xs : List X) (y x : X) → slice_get (xs ++ y ∷ []) (length (xs ++ y ∷ []) - 1) ≡ Some x → y ≡ x
last-item xs y x at =
    let e : length (xs ++ y ∷ []) - 1 ≡ length xs = ap (λ n. n - 1) (length-append xs (y ∷ [])) ∙ omega arith in
    elim (more-item xs y (length xs) x (sym (ap (slice_get (xs ++ y ∷ [])) e) ∙ at)) [
      | inl before ↦ absurd (omega (arith, slice_get_within xs (length xs) x before))
      | inr last ↦ last.0
    ]

module _ {S O : Type 0} (setup : Setup) (core : CoreState S O) (entry : Entry) (kept : IsKept setup core) (step : IsStep setup core entry) where
  abbrev x : Position
  x = position core

  abbrev next : CoreState S O
  next = after_entry core entry

  pub within : entry.thread < length core.words
  within = slice_get_within core.words entry.thread (Said (Some entry.event)) step.word

  pub room-there : length core.journal + 1 ≤ setup.max_steps
  room-there = room setup x step.going kept.short

  pub due-there : slice_get next.words entry.thread ≡ Some Due
  due-there =
      slice_get-get_or next.words entry.thread Due (omega (arith, within, length-set core.words entry.thread Due))
      ∙ ap Some (get_or-set_same core.words entry.thread Due Due within)

  -- the last word of the thread was its event
  pub last-event : get_or x.words entry.thread None ≡ Some entry.event
  last-event =
      get_or-map last_word core.words entry.thread Due None within
      ∙ ap last_word (get_or_from_slice_get core.words entry.thread (Said (Some entry.event)) Due step.word)

  pub word-back : set (map last_word next.words) entry.thread (Some entry.event) ≡ x.words
  word-back =
      ap (λ last. set last entry.thread (Some entry.event)) (map-set last_word core.words entry.thread Due)
      ∙ set-twice x.words entry.thread None (Some entry.event)
      ∙ ap (λ event. set x.words entry.thread event) (sym last-event)
      ∙ set-get_or x.words entry.thread None

  before : (k : ℕ) → k ≤ length core.journal → position_at (position next) k ≡ position_at x k
  before k short = position-again core.journal entry x.words (map last_word next.words) k word-back short

  at-last : position_at (position next) (length core.journal) ≡ x
  at-last = before (length core.journal) (omega arith) ∙ position-here x

  pub longer-earlier : earlier (position next) ≡ earlier x ++ x ∷ []
  longer-earlier = earlier-more core.journal entry x.words (map last_word next.words) word-back

  -- what is so of each entry with its position
  at-each : (P : Position → Entry → Type 0) → ((k : ℕ) (other : Entry) → slice_get core.journal k ≡ Some other → P (position_at x k) other) → P x entry
      → (k : ℕ) (other : Entry) → slice_get next.journal k ≡ Some other → P (position_at (position next) k) other
  at-each P old new k other at = elim (more-item core.journal entry k other at) [
    | inl was ↦ subst (λ y. P y other) (sym (before k (omega (arith, slice_get_within core.journal k other was)))) (old k other was)
    | inr last ↦
        subst (λ n. P (position_at (position next) n) other) (sym last.1)
        (subst (λ y. P y other) (sym at-last) (subst (λ e. P x e) last.0 new))
  ]

  due-last : (last : Entry) (thread : ℕ) → slice_get next.journal (length next.journal - 1) ≡ Some last → slice_get next.words thread ≡ Some Due → thread ≡ last.thread
  due-last last thread at due = elim (due-here core.words entry.thread thread due) [
    | inl old ↦ absurd (false≢true (sym step.said ∙ any-due core.words thread old))
    | inr same ↦ same ∙ ap (λ (e : Entry). e.thread) (last-item core.journal entry last at)
  ]

  pub kept-step : IsKept setup next
  kept-step = record {
    valid = kept.valid;
    each = length-set core.words entry.thread Due ∙ kept.each;
    short = let more = room-there in omega (arith, more, length-append core.journal (entry ∷ []));
    entries = at-each (IsKeptEntry setup) kept.entries (record { said = last-event; enabled = step.enabled; replied = step.replied });
    going = at-each (GoesOnWith setup) kept.going (record { going = step.going; chosen = step.chosen });
    last_due = due-last;
  }
