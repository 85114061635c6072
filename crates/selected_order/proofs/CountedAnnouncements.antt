-- A script of which each thread announces as many selected events as counted, and no acquire, is tame.
use Rattle.std.proofs.Common.{◌≡◌, ℕ, ◌+◌, ◌==◌, ◌&&◌, ◌<◌, ◌≤◌, Bool, true, false, cond, IsTrue, List, [], ◌∷◌, ◌++◌, length, sum, take, get_or, None, Some, refl, ap, sym, subst, ◌∙◌, inl, inr, arith}
use Rattle.std.proofs.lemmas.Bool.{cases_eq, cases_lt, eq-eqb, false≢true, ne_eqb}
use Rattle.std.proofs.lemmas.List.{length_push}
use Rattle.std.proofs.lemmas.Option.{none-some}
use Rattle.std.specs.Option.{IsSome, is_some}
use Rattle.draw_split.proofs.Bag.{sum-less_one}
use Rattle.event_class.specs.declared.event.Event.{Event}
use Rattle.event_class.specs.declared.pickable.Pickable.{Pickable}
use Rattle.event_class.specs.Selection.{has}
use Rattle.test_world.specs.World.{WorldState, is_enabled, new_world}
use Rattle.run_rules.specs.declared.entry.Entry.{Entry}
use Rattle.run_rules.specs.EventsMade.{events_made}
use Rattle.run_rules.specs.Journal.{world_after}
use Rattle.run_rules.specs.LegalJournal.{IsLegal, IsLegalNext}
use Rattle.run_rules.specs.Replies.{replies_told}
use Rattle.run_rules.specs.Setup.{Script}
use Rattle.run_rules.proofs.Journals.{told-other, told-same}
use Rattle.run_rules.proofs.Numbers.{left-any, left-more, left-none, made-more}
use Rattle.run_rules.proofs.Prefixes.{at-whole}
use Rattle.selected_order.specs.SurwScript.{IsTame}
use Rattle.selected_order.proofs.InOrder.{left_of}

-- a thread announces an event while it was told fewer replies than counted, and none from there on, whatever the replies;
-- each of these events is selected, and enabled in every world; so many steps are within the limit
pub record AnnouncesCounts (script : Script) : Type 0 where
  pub counted : length script.setup.counts ≡ script.setup.threads
  pub going : (thread : ℕ) (replies : List ℕ) → length replies < get_or script.setup.counts thread 0 → IsSome (script.says thread replies)
  pub over : (thread : ℕ) (replies : List ℕ) → get_or script.setup.counts thread 0 ≤ length replies → script.says thread replies ≡ None
  pub selected : (thread : ℕ) (replies : List ℕ) (event : Event) → script.says thread replies ≡ Some event
      → has script.setup.selection event ≡ true
  pub free : (thread : ℕ) (replies : List ℕ) (event : Event) → script.says thread replies ≡ Some event
      → (world : WorldState) → IsTrue (is_enabled world event)
  pub short : sum script.setup.counts ≤ script.setup.max_steps

-- after a prefix of a legal journal each thread was told a reply for each event that it made, and made no more than
-- counted; the entries and what is left are the sum of the counts
record IsOnCount (script : Script) (journal : List Entry) : Type 0 where
  told : (thread : ℕ) → length (replies_told journal thread) ≡ events_made script.setup.selection journal thread
  most : (thread : ℕ) → events_made script.setup.selection journal thread ≤ get_or script.setup.counts thread 0
  long : length journal + sum (left_of script.setup journal) ≡ sum script.setup.counts

on-count-none : (script : Script) → IsOnCount script []
unfolding events_made replies_told
on-count-none script = record {
  told = λ thread. refl;
  most = λ thread. omega arith;
  long = omega (arith, ap sum (left-none script.setup.selection script.setup.counts));
}

-- a thread that announces an event was told fewer replies than counted
told-fewer : (script : Script) (thread : ℕ) (replies : List ℕ) (event : Event) → AnnouncesCounts script → script.says thread replies ≡ Some event
    → length replies < get_or script.setup.counts thread 0
told-fewer script thread replies event is says = elim (cases_lt (length replies) (get_or script.setup.counts thread 0)) [
  | inl fewer ↦ fewer
  | inr enough ↦ absurd (none-some event (sym (is.over thread replies enough) ∙ says))
]

-- a selected entry is one event of its thread, and of no other
made-one : (selection : List Pickable) (journal : List Entry) (entry : Entry) (thread : ℕ) (same : Bool) → has selection entry.event ≡ true
    → (entry.thread == thread) ≡ same
    → events_made selection (journal ++ entry ∷ []) thread ≡ events_made selection journal thread + cond same 1 0
made-one selection journal entry thread same selected is =
    made-more selection journal entry thread ∙ (λ i. events_made selection journal thread + cond {A = ℕ} (selected i && is i) 1 0)

on-count-more : (script : Script) (journal : List Entry) (entry : Entry) → AnnouncesCounts script → IsLegalNext script journal entry
    → IsOnCount script journal → IsOnCount script (journal ++ entry ∷ [])
on-count-more script journal entry is next so_far =
    let selection : List Pickable = script.setup.selection in
    let counts : List ℕ = script.setup.counts in
    let thread : ℕ = entry.thread in
    let replies : List ℕ = replies_told journal thread in
    let left : List ℕ = left_of script.setup journal in
    let selected = is.selected thread replies entry.event next.announced in
    let fewer : length replies < get_or counts thread 0 = told-fewer script thread replies entry.event is next.announced in
    let own : (thread == thread) ≡ true = eq-eqb thread thread refl in
    let one : events_made selection (journal ++ entry ∷ []) thread ≡ events_made selection journal thread + 1 =
    made-one selection journal entry thread true selected own in
    let none = λ (other : ℕ) (differ : (thread == other) ≡ false). made-one selection journal entry other false selected differ in
    let some : 0 < get_or left thread 0 = omega (arith, fewer, so_far.told thread, left-any selection counts journal thread) in
    record {
      told = λ other. elim (cases_eq thread other) [
        | inl same ↦
            let last = ap length (told-same journal entry) ∙ length_push replies entry.reply in
            let here : length (replies_told (journal ++ entry ∷ []) thread) ≡ events_made selection (journal ++ entry ∷ []) thread =
            omega (arith, last, one, so_far.told thread) in
            subst (λ t. length (replies_told (journal ++ entry ∷ []) t) ≡ events_made selection (journal ++ entry ∷ []) t) same here
        | inr differ ↦
            omega (arith, ap length (told-other journal entry other differ), none other (ne_eqb thread other differ), so_far.told other)
      ];
      most = λ other. elim (cases_eq thread other) [
        | inl same ↦
            let here : events_made selection (journal ++ entry ∷ []) thread ≤ get_or counts thread 0 = omega (arith, one, fewer, so_far.told thread) in
            subst (λ t. events_made selection (journal ++ entry ∷ []) t ≤ get_or counts t 0) same here
        | inr differ ↦ omega (arith, none other (ne_eqb thread other differ), so_far.most other)
      ];
      long = omega (
        arith,
        length_push journal entry,
        ap sum (left-more selection counts journal entry selected),
        sum-less_one left thread some,
        so_far.long,
      );
    }

on-count : (script : Script) (journal : List Entry) → AnnouncesCounts script → IsLegal script journal → IsOnCount script journal
on-count script journal is legal =
    at-whole (IsOnCount script) journal (on-count-none script) (λ k entry at. on-count-more script (take k journal) entry is (legal k entry at))

-- one that announces none was told as many
told-enough : (script : Script) (thread : ℕ) (replies : List ℕ) → AnnouncesCounts script → script.says thread replies ≡ None
    → get_or script.setup.counts thread 0 ≤ length replies
told-enough script thread replies is none = elim (cases_lt (length replies) (get_or script.setup.counts thread 0)) [
  | inl fewer ↦ absurd (false≢true (sym (ap is_some none) ∙ is.going thread replies fewer))
  | inr enough ↦ enough
]

pub announces-counts-tame : (script : Script) → AnnouncesCounts script → IsTame script
announces-counts-tame script is = record {
  counted = is.counted;
  free = λ journal legal thread event within announced.
      is.free thread (replies_told journal thread) event announced (world_after (new_world script.setup.size) journal);
  true_counts = λ journal legal ended thread within.
      let all : IsOnCount script journal = on-count script journal is legal in
      let enough = told-enough script thread (replies_told journal thread) is (ended thread within) in
      omega (arith, enough, all.told thread, all.most thread);
  short = λ journal legal.
      let all : IsOnCount script journal = on-count script journal is legal in
      let sums = all.long in
      let limit = is.short in
      omega (arith, sums, limit);
}
