-- Routines beside a core: the replies that they were told and the words that they say.
use Rattle.std.proofs.Common.{◌≡◌, ◌≢◌, ℕ, zero, suc, ◌+◌, ◌≤◌, List, [], ◌∷◌, ◌++◌, length, map, set, Option, None, Some, refl, ap, sym, ◌∙◌, arith}
use Rattle.std.proofs.lemmas.List.{map-set}
use Rattle.std.proofs.lemmas.Option.{none-some, same_Some}
use Rattle.std.specs.List.{enumerate_from, range_with_len, slice_get}
use Rattle.std.specs.Option.{option_map}
use Rattle.event_class.specs.declared.event.Event.{Event}
use Rattle.routine_kit.proofs.Run.{after-more}
use Rattle.routine_kit.specs.declared.routine.Routine.{Ghosts}
use Rattle.routine_kit.specs.Run.{after_replies}
use Rattle.run_rules.specs.declared.entry.Entry.{Entry}
use Rattle.run_rules.specs.Replies.{replies_told, routine_says}
use Rattle.run_rules.proofs.Journals.{told-other, told-same}
use Rattle.pure_run.specs.declared.word.Word.TheVariants.{Due, Said}
use Rattle.pure_run.specs.Core.{last_word}
use Rattle.pure_run.specs.Inline.{said_by, told_routines}
use Rattle.pure_run.proofs.Counts.{set-twice}

-- an item of a numbered list
item-numbered : {X Y : Type 0} (f : ℕ × X → Y) (n : ℕ) (xs : List X) (k : ℕ) → slice_get (map f (enumerate_from n xs)) k ≡ option_map (λ x. f (n + k, x)) (slice_get xs k)
item-numbered f n [] k = refl
item-numbered f n (x ∷ xs) zero = ap (λ m. Some (f (m, x))) (omega arith)
item-numbered f n (x ∷ xs) (suc k) =
    item-numbered f (n + 1) xs k ∙ ap (λ m. option_map (λ y. f (m, y)) (slice_get xs k)) (omega arith)

-- two functions that agree from a number on
above-same : {X Y : Type 0} (f h : ℕ × X → Y) (n : ℕ) (xs : List X) → ((j : ℕ) (x : X) → n ≤ j → f (j, x) ≡ h (j, x)) → map f (enumerate_from n xs) ≡ map h (enumerate_from n xs)
above-same f h n [] same = refl
above-same f h n (x ∷ xs) same =
    ap (λ y. y ∷ map f (enumerate_from (n + 1) xs)) (same n x (omega arith))
    ∙ ap (λ ys. h (n, x) ∷ ys) (above-same f h (n + 1) xs (λ j y above. same j y (omega (arith, above))))

-- one item of a numbered list is set
set-numbered : {X Y : Type 0} (f h : ℕ × X → Y) (n : ℕ) (xs : List X) (k : ℕ) (y : Y)
    → ((j : ℕ) (x : X) → j ≢ n + k → f (j, x) ≡ h (j, x)) → ((x : X) → slice_get xs k ≡ Some x → y ≡ h (n + k, x))
    → set (map f (enumerate_from n xs)) k y ≡ map h (enumerate_from n xs)
set-numbered f h n [] k y others here = refl
set-numbered f h n (x ∷ xs) zero y others here =
    ap (λ z. z ∷ map f (enumerate_from (n + 1) xs)) (here x refl ∙ ap (λ m. h (m, x)) (omega arith))
    ∙ ap (λ ys. h (n, x) ∷ ys) (above-same f h (n + 1) xs (λ j z above. others j z (λ e. absurd (omega (arith, above, e)))))
set-numbered f h n (x ∷ xs) (suc k) y others here =
    ap (λ z. z ∷ set (map f (enumerate_from (n + 1) xs)) k y) (others n x (λ e. absurd (omega (arith, e))))
    ∙ ap (λ ys. h (n, x) ∷ ys)
    (set-numbered f h (n + 1) xs k y (λ j z differ. others j z (λ e. differ (e ∙ omega arith)))
    (λ z at. here z at ∙ ap (λ m. h (m, z)) (omega arith)))

-- what the items of a numbered list give, by their numbers
by-number : {X Y Z : Type 0} (f : ℕ × X → Y) (p : Y → Z) (q : ℕ → Z) (n : ℕ) (xs : List X)
    → ((k : ℕ) (x : X) → slice_get xs k ≡ Some x → p (f (n + k, x)) ≡ q (n + k))
    → map p (map f (enumerate_from n xs)) ≡ map q (range_with_len n (length xs))
by-number f p q n [] same = refl
by-number f p q n (x ∷ xs) same =
    ap (λ z. z ∷ map p (map f (enumerate_from (n + 1) xs))) (ap (λ m. p (f (m, x))) (omega arith) ∙ same 0 x refl ∙ ap q (omega arith))
    ∙ ap (λ zs. q n ∷ zs) (by-number f p q (n + 1) xs (λ k y at. ap (λ m. p (f (m, y))) (omega arith) ∙ same (suc k) y at ∙ ap q (omega arith)))

module _ {R : Type 0} (behaviour : Ghosts R) (start : List R) where
  -- a routine after the replies that it was told
  pub told-at : (journal : List Entry) (thread : ℕ)
      → slice_get (told_routines behaviour start journal) thread ≡ option_map (λ routine. after_replies behaviour.after_reply routine (replies_told journal thread)) (slice_get start thread)
  told-at journal thread = item-numbered (λ e. after_replies behaviour.after_reply e.1 (replies_told journal e.0)) 0 start thread ∙ ap (λ m. option_map (λ routine. after_replies behaviour.after_reply routine (replies_told journal m)) (slice_get start thread)) (omega arith)

  says-of : (o : Option R) (replies : List ℕ) (routine : R) → option_map (λ r. after_replies behaviour.after_reply r replies) o ≡ Some routine → routine_says behaviour o replies ≡ behaviour.announced routine
  says-of None replies routine is = absurd (none-some routine is)
  says-of (Some first) replies routine is = ap behaviour.announced (same_Some (after_replies behaviour.after_reply first replies) routine is)

  -- what the thread announces after the journal is what its routine announces
  pub says-at : (journal : List Entry) (thread : ℕ) (routine : R) → slice_get (told_routines behaviour start journal) thread ≡ Some routine
      → routine_says behaviour (slice_get start thread) (replies_told journal thread) ≡ behaviour.announced routine
  says-at journal thread routine at = says-of (slice_get start thread) (replies_told journal thread) routine (sym (told-at journal thread) ∙ at)

  more-of : (o : Option R) (replies : List ℕ) (reply : ℕ) (routine first : R) → option_map (λ r. after_replies behaviour.after_reply r replies) o ≡ Some routine → o ≡ Some first
      → behaviour.after_reply routine reply ≡ after_replies behaviour.after_reply first (replies ++ reply ∷ [])
  more-of None replies reply routine first is at = absurd (none-some first at)
  more-of (Some other) replies reply routine first is at =
      ap (λ r. behaviour.after_reply r reply) (sym (same_Some (after_replies behaviour.after_reply other replies) routine is))
      ∙ ap (λ r. behaviour.after_reply (after_replies behaviour.after_reply r replies) reply) (same_Some other first at)
      ∙ sym (after-more behaviour.after_reply first replies reply)

  -- one reply more for the thread of an entry
  pub told-step : (journal : List Entry) (entry : Entry) (routine : R) → slice_get (told_routines behaviour start journal) entry.thread ≡ Some routine
      → set (told_routines behaviour start journal) entry.thread (behaviour.after_reply routine entry.reply) ≡ told_routines behaviour start (journal ++ entry ∷ [])
  told-step journal entry routine at =
      set-numbered (λ e. after_replies behaviour.after_reply e.1 (replies_told journal e.0)) (λ e. after_replies behaviour.after_reply e.1 (replies_told (journal ++ entry ∷ []) e.0)) 0 start entry.thread (behaviour.after_reply routine entry.reply)
      (λ j first differ. ap (λ replies. after_replies behaviour.after_reply first replies) (sym (told-other journal entry j (λ e. differ (sym e ∙ omega arith)))))
      (λ first here.
      more-of (slice_get start entry.thread) (replies_told journal entry.thread) entry.reply routine first (sym (told-at journal entry.thread) ∙ at) here
      ∙ ap (λ replies. after_replies behaviour.after_reply first replies) (sym (told-same journal entry))
      ∙ ap (λ m. after_replies behaviour.after_reply first (replies_told (journal ++ entry ∷ []) m)) (omega arith))

  last-words : (routines : List R) → map last_word (said_by behaviour routines) ≡ map behaviour.announced routines
  last-words [] = refl
  last-words (routine ∷ routines) = ap (λ rest. behaviour.announced routine ∷ rest) (last-words routines)

  -- the words of the threads are what they announce after the journal
  pub words-said : (journal : List Entry) (routines : List R) → routines ≡ told_routines behaviour start journal
      → map last_word (said_by behaviour routines) ≡ map (λ thread. routine_says behaviour (slice_get start thread) (replies_told journal thread)) (range_with_len 0 (length start))
  words-said journal routines told =
      last-words routines
      ∙ ap (λ rs. map behaviour.announced rs) told
      ∙ by-number (λ e. after_replies behaviour.after_reply e.1 (replies_told journal e.0)) behaviour.announced (λ thread. routine_says behaviour (slice_get start thread) (replies_told journal thread)) 0 start
      (λ k first at.
      ap (λ o. routine_says behaviour o (replies_told journal (0 + k))) (sym at)
      ∙ ap (λ m. routine_says behaviour (slice_get start m) (replies_told journal (0 + k))) (omega arith))

-- a word that was said, by the routine that said it
pub record HasRoutine {R : Type 0} (behaviour : Ghosts R) (routines : List R) (thread : ℕ) (event : Event) : Type 0 where
  pub routine : R
  pub at : slice_get routines thread ≡ Some routine
  pub says : behaviour.announced routine ≡ Some event

said-same : (one other : Option Event) → Some (Said one) ≡ Some (Said other) → one ≡ other
said-same one other same = cc

pub has-routine : {R : Type 0} (behaviour : Ghosts R) (routines : List R) (thread : ℕ) (event : Event)
    → slice_get (said_by behaviour routines) thread ≡ Some (Said (Some event)) → HasRoutine behaviour routines thread event
has-routine behaviour [] thread event at = absurd (none-some (Said (Some event)) at)
has-routine behaviour (routine ∷ routines) zero event at = record { routine = routine; at = refl; says = said-same (behaviour.announced routine) (Some event) at }
has-routine behaviour (routine ∷ routines) (suc thread) event at =
    let rest = has-routine behaviour routines thread event at in
    record { routine = rest.routine; at = rest.at; says = rest.says }

-- the words after a step and the next word
pub said-step : {R : Type 0} (behaviour : Ghosts R) (routines : List R) (thread : ℕ) (routine : R)
    → set (set (said_by behaviour routines) thread Due) thread (Said (behaviour.announced routine)) ≡ said_by behaviour (set routines thread routine)
said-step behaviour routines thread routine =
    set-twice (said_by behaviour routines) thread Due (Said (behaviour.announced routine)) ∙ sym (map-set (λ r. Said (behaviour.announced r)) routines thread routine)
