-- Logs, and the entries of a thread.
use Rattle.std.proofs.Common.{◌≡◌, ◌≢◌, ℕ, zero, suc, replicate, ◌+◌, ◌==◌, ◌<◌, ◌≤◌, Bool, true, false, cond, List, [], ◌∷◌, ◌++◌, length, map, take, get_or, set, Option, None, Some, refl, ap, sym, subst, ◌∙◌, inl, inr, arith}
use Rattle.std.proofs.lemmas.Bool.{cases_eq, eq-eqb, ne_eqb}
use Rattle.std.proofs.lemmas.List.{append-nil, get_or-set_other, get_or-set_same, length-append, length-map, map-append, take_all, take_more}
use Rattle.std.proofs.lemmas.Option.{get_or_from_slice_get, same_Some, slice_get_within}
use Rattle.std.proofs.lemmas.List.Elements.{filter-append}
use Rattle.std.proofs.lemmas.Simd.{map-map}
use Rattle.std.specs.List.{filter, slice_get}
use Rattle.std.specs.Prelude.{slice_index_or}
use Rattle.event_class.specs.declared.event.Event.{Event}
use Rattle.routine_kit.specs.declared.routine.Routine.{Ghosts}
use Rattle.routine_kit.specs.Run.{after_replies}
use Rattle.run_rules.specs.declared.entry.Entry.{Entry}
use Rattle.run_rules.specs.Replies.{replies_told}
use Rattle.gate_core.specs.Log.{EndsAt, Follows, IsOwn, LogState, made_by}

take-more : {X : Type 0} (xs : List X) (k : ℕ) (x : X) → slice_get xs k ≡ Some x → take (k + 1) xs ≡ take k xs ++ x ∷ []
take-more xs k x at = take_more xs k x (slice_get_within xs k x at) ∙ ap (λ y. take k xs ++ y ∷ []) (get_or_from_slice_get xs k x x at)

abbrev pub pair-of : Entry → Event × ℕ
pair-of entry = (entry.event, entry.reply)

abbrev replies-in : List (Event × ℕ) → List ℕ
replies-in items = map (λ item. item.1) items

pub made-append : (thread : ℕ) (journal more : List Entry) → made_by thread (journal ++ more) ≡ made_by thread journal ++ made_by thread more
unfolding made_by
made-append thread journal more =
    ap (λ entries. map pair-of entries) (filter-append (λ (e : Entry). e.thread == thread) journal more)
    ∙ map-append pair-of (filter (λ (e : Entry). e.thread == thread) journal) (filter (λ (e : Entry). e.thread == thread) more)

made-first : (thread : ℕ) (entry : Entry) (rest : List Entry) (b : Bool) → (entry.thread == thread) ≡ b
    → made_by thread (entry ∷ rest) ≡ map pair-of (cond b (entry ∷ filter (λ e. e.thread == thread) rest) (filter (λ e. e.thread == thread) rest))
unfolding made_by
made-first thread entry rest b is = ap (λ (b : Bool). map pair-of (cond b (entry ∷ filter (λ (e : Entry). e.thread == thread) rest) (filter (λ (e : Entry). e.thread == thread) rest))) is

pub made-in : (thread : ℕ) (entry : Entry) (rest : List Entry) → entry.thread ≡ thread → made_by thread (entry ∷ rest) ≡ pair-of entry ∷ made_by thread rest
unfolding made_by
made-in thread entry rest is = made-first thread entry rest true (eq-eqb entry.thread thread is)

pub made-out : (thread : ℕ) (entry : Entry) (rest : List Entry) → entry.thread ≢ thread → made_by thread (entry ∷ rest) ≡ made_by thread rest
unfolding made_by
made-out thread entry rest differ = made-first thread entry rest false (ne_eqb entry.thread thread differ)

pub made-none : (thread : ℕ) → [] ≡ made_by thread []
unfolding made_by
made-none thread = refl

-- one entry more
pub made-more : (thread : ℕ) (journal : List Entry) (entry : Entry) → entry.thread ≡ thread → made_by thread (journal ++ entry ∷ []) ≡ made_by thread journal ++ pair-of entry ∷ []
unfolding made_by
made-more thread journal entry is = made-append thread journal (entry ∷ []) ∙ ap (λ rest. made_by thread journal ++ rest) (made-in thread entry [] is)

-- the entry at a place, where the items so far are those of the entries so far
pub made-here : (thread : ℕ) (journal : List Entry) (k : ℕ) (entry : Entry) (items : List (Event × ℕ)) (place : ℕ) → slice_get journal k ≡ Some entry → entry.thread ≡ thread
    → slice_get items place ≡ Some (entry.event, entry.reply) → take place items ≡ made_by thread (take k journal)
    → take (place + 1) items ≡ made_by thread (take (k + 1) journal)
made-here thread journal k entry items place at is item same =
    take-more items place (pair-of entry) item
    ∙ ap (λ front. front ++ pair-of entry ∷ []) same
    ∙ sym (made-more thread (take k journal) entry is)
    ∙ ap (made_by thread) (sym (take-more journal k entry at))

pub made-there : (thread : ℕ) (journal : List Entry) (k : ℕ) (entry : Entry) (front : List (Event × ℕ)) → slice_get journal k ≡ Some entry → entry.thread ≢ thread
    → front ≡ made_by thread (take k journal) → front ≡ made_by thread (take (k + 1) journal)
made-there thread journal k entry front at differ same =
    same
    ∙ sym (ap (made_by thread) (take-more journal k entry at) ∙ made-append thread (take k journal) (entry ∷ [])
    ∙ ap (λ rest. made_by thread (take k journal) ++ rest) (made-out thread entry [] differ ∙ sym (made-none thread)) ∙ append-nil (made_by thread (take k journal)))

-- so many items of each log are its thread's entries among the first ones
abbrev pub AreMade : {R : Type 0} → List Entry → ℕ → List (LogState R) → List ℕ → Type 0
AreMade journal k logs made = (thread : ℕ) (log : LogState _) → slice_get logs thread ≡ Some log → take (get_or made thread 0) log.items ≡ made_by thread (take k journal)

pub are-made-none : {R : Type 0} (journal : List Entry) (logs : List (LogState R)) (made : List ℕ) → ((thread : ℕ) → get_or made thread 0 ≡ 0) → AreMade journal 0 logs made
are-made-none journal logs made zeros thread log at = ap (λ n. take n log.items) (zeros thread) ∙ made-none thread

-- a list of zeros has no other number
pub zeros : (n thread : ℕ) → ◌≡◌ {A = ℕ} (get_or (replicate n 0) thread 0) 0
zeros zero thread = refl
zeros (suc n) zero = refl
zeros (suc n) (suc thread) = zeros n thread

-- with one entry more, which is the next item of its thread's log
pub are-made-more : {R : Type 0} (journal : List Entry) (k : ℕ) (entry : Entry) (logs : List (LogState R)) (made : List ℕ) (own : LogState R)
    → AreMade journal k logs made → slice_get journal k ≡ Some entry → slice_get logs entry.thread ≡ Some own → entry.thread < length made
    → slice_get own.items (get_or made entry.thread 0) ≡ Some (entry.event, entry.reply) → AreMade journal (k + 1) logs (set made entry.thread (get_or made entry.thread 0 + 1))
are-made-more journal k entry logs made own are at own-at within item thread log log-at = elim (cases_eq entry.thread thread) [
  | inl is ↦
      let same : own ≡ log = same_Some _ _ (sym own-at ∙ ap (slice_get logs) is ∙ log-at) in
      ap (λ n. take (get_or (set made entry.thread (get_or made entry.thread 0 + 1)) n 0) log.items) (sym is)
      ∙ ap (λ n. take n log.items) (get_or-set_same made entry.thread (get_or made entry.thread 0 + 1) 0 within)
      ∙ made-here thread journal k entry log.items (get_or made entry.thread 0) at is
      (subst (λ (l : LogState _). slice_get l.items (get_or made entry.thread 0) ≡ Some (entry.event, entry.reply)) same item)
      (ap (λ n. take (get_or made n 0) log.items) is ∙ are thread log log-at)
  | inr differ ↦
      ap (λ n. take n log.items) (get_or-set_other made entry.thread thread (get_or made entry.thread 0 + 1) 0 (λ e. differ (sym e)))
      ∙ made-there thread journal k entry (take (get_or made thread 0) log.items) at differ (are thread log log-at)
]

-- no thread has made more than there are entries
pub few-more : (k : ℕ) (made : List ℕ) (one : ℕ) → ((thread : ℕ) → get_or made thread 0 ≤ k) → one < length made
    → (thread : ℕ) → get_or (set made one (get_or made one 0 + 1)) thread 0 ≤ k + 1
few-more k made one few within thread = elim (cases_eq one thread) [
  | inl is ↦
      omega (arith, few one, ap (λ n. get_or (set made one (get_or made one 0 + 1)) n 0) (sym is), get_or-set_same made one (get_or made one 0 + 1) 0 within)
  | inr differ ↦ omega (arith, few thread, get_or-set_other made one thread (get_or made one 0 + 1) 0 (λ e. differ (sym e)))
]

-- the replies told are those of the entries
pub told-made : (thread : ℕ) (journal : List Entry) → replies_told journal thread ≡ replies-in (made_by thread journal)
unfolding made_by replies_told
told-made thread journal = sym (map-map (λ (item : Event × ℕ). item.1) pair-of (filter (λ (e : Entry). e.thread == thread) journal))

module _ {R : Type 0} (behaviour : Ghosts R) where
  pub follows-none : (start now : R) → start ≡ now → Follows behaviour start [] now
  unfolding Follows
  follows-none start now same = same

  pub follows-more : (start now : R) (items : List (Event × ℕ)) (item : Event × ℕ) → Follows behaviour start items now → behaviour.announced now ≡ Some item.0
      → Follows behaviour start (items ++ item ∷ []) (behaviour.after_reply now item.1)
  unfolding Follows
  follows-more start now [] item f says = (subst (λ r. behaviour.announced r ≡ Some item.0) (sym f) says, ap (λ r. behaviour.after_reply r item.1) f)
  follows-more start now (x ∷ xs) item f says = (f.0, follows-more (behaviour.after_reply start x.1) now xs item f.1 says)

  -- the last routine
  pub follows-last : (start now : R) (items : List (Event × ℕ)) → Follows behaviour start items now → now ≡ after_replies behaviour.after_reply start (replies-in items)
  unfolding Follows after_replies
  follows-last start now [] f = sym f
  follows-last start now (x ∷ xs) f = follows-last (behaviour.after_reply start x.1) now xs f.1

  -- what is announced before an item
  pub follows-says : (start now : R) (front : List (Event × ℕ)) (item : Event × ℕ) (rest : List (Event × ℕ)) → Follows behaviour start (front ++ item ∷ rest) now
      → behaviour.announced (after_replies behaviour.after_reply start (replies-in front)) ≡ Some item.0
  unfolding Follows after_replies
  follows-says start now [] item rest f = f.0
  follows-says start now (x ∷ front) item rest f = follows-says (behaviour.after_reply start x.1) now front item rest f.1

  -- what is announced before an entry
  pub says-before : (start now : R) (thread : ℕ) (front : List Entry) (entry : Entry) (rest : List Entry) → entry.thread ≡ thread
      → Follows behaviour start (made_by thread (front ++ entry ∷ rest)) now → behaviour.announced (after_replies behaviour.after_reply start (replies_told front thread)) ≡ Some entry.event
  says-before start now thread front entry rest is f =
      let cut : made_by thread (front ++ entry ∷ rest) ≡ made_by thread front ++ pair-of entry ∷ made_by thread rest =
      made-append thread front (entry ∷ rest) ∙ ap (λ items. made_by thread front ++ items) (made-in thread entry rest is) in
      ap (λ replies. behaviour.announced (after_replies behaviour.after_reply start replies)) (told-made thread front)
      ∙ follows-says start now (made_by thread front) (pair-of entry) (made_by thread rest) (subst (λ items. Follows behaviour start items now) cut f)

  -- the last routine is what it is after the replies told
  pub last-told : (start now : R) (thread : ℕ) (journal : List Entry) → Follows behaviour start (made_by thread journal) now → now ≡ after_replies behaviour.after_reply start (replies_told journal thread)
  last-told start now thread journal f = follows-last start now (made_by thread journal) f ∙ ap (λ replies. after_replies behaviour.after_reply start replies) (sym (told-made thread journal))

-- what was taken of a list is no longer than the list
pub no-longer : {A B C : Type 0} (f : A → C) (h : B → C) (xs : List A) (ys rest whole : List B) → map f xs ≡ map h ys → ys ++ rest ≡ whole → length xs ≤ length whole
no-longer f h xs ys rest whole same cut =
    omega (arith, length-map xs f, length-map ys h, ap length same, ap length cut, length-append ys rest)

-- where all of its items are its thread's entries, a log is its thread's
pub is-own : {R : Type 0} (behaviour : Ghosts R) (journal : List Entry) (words : List (Option Event)) (thread : ℕ) (log : LogState R) (made : ℕ)
    → take made log.items ≡ made_by thread journal → EndsAt behaviour log made (slice_index_or words thread None) → IsOwn behaviour journal words thread log
is-own behaviour journal words thread log made same ends = record {
  follows = ends.follows;
  items = sym (take_all made log.items (omega (arith, ends.count))) ∙ same;
  word = ends.says;
}
