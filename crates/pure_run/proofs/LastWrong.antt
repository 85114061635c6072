-- After a step only its thread can be wrong: the others weren't before it, and what is asked of them stays.
use Rattle.std.proofs.Common.{◌≡◌, ◌≢◌, ℕ, ◌+◌, ◌-◌, ◌==◌, ◌&&◌, ◌<◌, Bool, true, false, cond, List, [], ◌∷◌, ◌++◌, length, get_or, map, take, set, Option, None, Some, IfSome, refl, ap, sym, subst, ◌∙◌, inl, inr, arith}
use Rattle.std.proofs.lemmas.Bool.{cases_lt, ne_eqb}
use Rattle.std.proofs.lemmas.List.{get_or_past, get_or-set_other, length-set, length-take-le, take_all}
use Rattle.std.proofs.lemmas.Option.{none-some, same_Some}
use Rattle.std.specs.Option.{option_map}
use Rattle.event_class.specs.declared.event.Event.{Event}
use Rattle.event_class.specs.declared.pickable.Pickable.{Pickable}
use Rattle.event_class.specs.Selection.{has}
use Rattle.test_world.specs.World.{WorldState, is_enabled}
use Rattle.walk_rules.specs.declared.seen.Seen.TheVariants.{Held, Able}
use Rattle.walk_rules.specs.Seen.{seen_of}
use Rattle.walk_rules.specs.Strategies.{counts_down}
use Rattle.walk_rules.specs.Walk.{NoOtherIsWrong, counted, is_wrong, is_wrong_at, wrong_by}
use Rattle.walk_rules.proofs.WrongThreads.{none-wrong, right-first}
use Rattle.run_rules.specs.declared.entry.Entry.{Entry}
use Rattle.run_rules.specs.EventsMade.{events_made}
use Rattle.run_rules.specs.NumbersLeft.{left_at, left_by}
use Rattle.run_rules.specs.Position.{Position, position_at, seen_at, seen_word, world_at}
use Rattle.run_rules.specs.RuleChoice.{walk_at}
use Rattle.run_rules.specs.Setup.{Setup}
use Rattle.run_rules.specs.Verdict.{verdict_at}
use Rattle.run_rules.proofs.EarlierPositions.{position-again, position-here}
use Rattle.run_rules.proofs.Numbers.{left-any, made-more}
use Rattle.run_rules.proofs.Prefixes.{next-at}
use Rattle.run_rules.proofs.Verdicts.{verdict-none}
use Rattle.run_rules.proofs.Words.{length-seen, seen-at}
use Rattle.run_rules.proofs.WrongCounts.{counts-right}
use Rattle.pure_run.specs.Core.{CoreState, last_thread, last_word, position}
use Rattle.pure_run.specs.Invariant.{IsKept}

-- whether a thread is wrong goes by its number left and its word, whether that is enabled or not
wrong-either : (left : ℕ) (chosen enabled : Bool) → is_wrong left (cond enabled (Able chosen) (Held chosen)) ≡ is_wrong left (Held chosen)
wrong-either left chosen true = refl
wrong-either left chosen false = refl

wrong-anywhere : (world other : WorldState) (selection : List Pickable) (left : ℕ) (word : Option Event)
    → is_wrong left (seen_word world selection word) ≡ is_wrong left (seen_word other selection word)
wrong-anywhere world other selection left None = refl
wrong-anywhere world other selection left (Some event) =
    wrong-either left (has selection event) (is_enabled world event) ∙ sym (wrong-either left (has selection event) (is_enabled other event))

not-both : (selected : Bool) → cond {A = ℕ} (selected && false) 1 0 ≡ 0
not-both true = refl
not-both false = refl

module _ (setup : Setup) (journal : List Entry) (entry : Entry) (words : List (Option Event)) where
  -- the positions before an entry and after it
  abbrev before : Position
  before = record { journal = journal; words = set words entry.thread (Some entry.event) }

  abbrev now : Position
  now = record { journal = journal ++ entry ∷ []; words = words }

  left-stays : (other : ℕ) → other ≢ entry.thread → get_or (left_at setup now) other 0 ≡ get_or (left_at setup before) other 0
  left-stays other differ =
      let none : cond {A = ℕ} (has setup.selection entry.event && (entry.thread == other)) 1 0 ≡ 0 =
      ap (λ (b : Bool). cond {A = ℕ} (has setup.selection entry.event && b) 1 0) (ne_eqb entry.thread other (λ e. differ (sym e))) ∙ not-both (has setup.selection entry.event) in
      let made : events_made setup.selection (journal ++ entry ∷ []) other ≡ events_made setup.selection journal other =
      omega (arith, none, made-more setup.selection journal entry other) in
      left-any setup.selection setup.counts (journal ++ entry ∷ []) other
      ∙ ap (λ n. get_or setup.counts other 0 - n) made
      ∙ sym (left-any setup.selection setup.counts journal other)

  wrong-stays : (other : ℕ) → other ≢ entry.thread
      → is_wrong_at (left_at setup now) (seen_at setup now) other ≡ is_wrong_at (left_at setup before) (seen_at setup before) other
  wrong-stays other differ =
      let left : ℕ = get_or (left_at setup before) other 0 in
      ap (λ n. is_wrong n (seen_of (seen_at setup now) other)) (left-stays other differ)
      ∙ ap (is_wrong left) (seen-at setup now other)
      ∙ wrong-anywhere (world_at setup now) (world_at setup before) setup.selection left (get_or words other None)
      ∙ ap (λ word. is_wrong left (seen_word (world_at setup before) setup.selection word)) (sym (get_or-set_other words entry.thread other (Some entry.event) None differ))
      ∙ sym (ap (is_wrong left) (seen-at setup before other))

  right-stays : (counting : Bool) (other : ℕ) → other < length words → other ≢ entry.thread
      → wrong_by counting setup.counts (left_by counting setup before) (seen_at setup before) ≡ None
      → (found : ℕ × ℕ × ℕ) → cond (counting && is_wrong_at (left_by counting setup now) (seen_at setup now) other) (Some found) None ≡ None
  right-stays true other lt differ right found =
      let listed : other < length (seen_at setup before) =
      omega (arith, lt, length-seen setup before, length-set words entry.thread (Some entry.event)) in
      let none = none-wrong (left_at setup before) (seen_at setup before) (right-first setup.counts (left_at setup before) (seen_at setup before) right) other listed in
      ap (λ (b : Bool). cond b (Some found) None) (wrong-stays other differ ∙ none)
  right-stays false other lt differ right found = refl

  -- where the run went on before the entry, no other thread is wrong after it
  others-right : verdict_at setup before ≡ None → NoOtherIsWrong (walk_at setup now) (seen_at setup now) entry.thread
  others-right going = λ other below differ.
      right-stays (counts_down setup.rule) other (omega (arith, below, length-seen setup now)) differ (counts-right setup before ((verdict-none setup before going).counted))
      (counted setup.counts (left_by (counts_down setup.rule) setup now) other)

last-some : (journal : List Entry) (thread : ℕ) → last_thread journal ≡ Some thread → 0 < length journal
last-some [] thread is = absurd (none-some thread is)
last-some (entry ∷ journal) thread is = omega arith

said-within : (words : List (Option Event)) (thread : ℕ) (event : Event) → get_or words thread None ≡ Some event → thread < length words
said-within words thread event said = elim (cases_lt thread (length words)) [
  | inl within ↦ within
  | inr past ↦ absurd (none-some event (sym (get_or_past words thread None past) ∙ said))
]

-- the thread of the last entry is one of the threads, and no other is wrong
pub record IsLast (setup : Setup) (x : Position) (thread : ℕ) : Type 0 where
  pub within : thread < length x.words
  pub others : NoOtherIsWrong (walk_at setup x) (seen_at setup x) thread

pub last-is : {S O : Type 0} (setup : Setup) (core : CoreState S O) → IsKept setup core → (thread : ℕ) → last_thread core.journal ≡ Some thread
    → IsLast setup (position core) thread
last-is setup core kept thread is =
    let journal : List Entry = core.journal in
    let words : List (Option Event) = map last_word core.words in
    let some = last-some journal thread is in
    let n : ℕ = length journal - 1 in
    let step = next-at journal n (omega (arith, some)) in
    let all : n + 1 ≡ length journal = omega (arith, some) in
    let whole : take n journal ++ step.item ∷ [] ≡ journal = sym step.cut ∙ ap (λ m. take m journal) all ∙ take_all (length journal) journal (omega arith) in
    let long : length (take n journal) ≡ n = length-take-le n journal (omega (arith, some)) in
    let earlier : Position = before setup (take n journal) step.item words in
    let there : position_at (position core) n ≡ earlier =
    ap (λ entries. position_at (record { journal = entries; words = words }) n) (sym whole)
    ∙ position-again (take n journal) step.item earlier.words words n refl (omega (arith, long))
    ∙ ap (position_at earlier) (sym long)
    ∙ position-here earlier in
    let going : verdict_at setup earlier ≡ None = ap (verdict_at setup) (sym there) ∙ (kept.going n step.item step.there).going in
    let said : get_or earlier.words step.item.thread None ≡ Some step.item.event =
    ap (λ (x : Position). get_or x.words step.item.thread None) (sym there) ∙ (kept.entries n step.item step.there).said in
    let same : step.item.thread ≡ thread = same_Some step.item.thread thread (sym (ap (option_map (λ (entry : Entry). entry.thread)) step.there) ∙ is) in
    record {
      within = omega (arith, same, said-within earlier.words step.item.thread step.item.event said, length-set words step.item.thread (Some step.item.event));
      others =
          subst (NoOtherIsWrong (walk_at setup (position core)) (seen_at setup (position core))) same
          (subst (λ entries. NoOtherIsWrong (walk_at setup (record { journal = entries; words = words })) (seen_at setup (record { journal = entries; words = words })) step.item.thread) whole
          (others-right setup (take n journal) step.item words going));
    }

-- what is true of a value where there is one
pub if-some : {A : Type 0} (found : Option A) (P : A → Type 0) → ((x : A) → found ≡ Some x → P x) → IfSome found P
if-some None P holds = tt
if-some (Some x) P holds = holds x refl

pub some-if : {A : Type 0} (found : Option A) (P : A → Type 0) (x : A) → IfSome found P → found ≡ Some x → P x
some-if found P x holds is = subst (λ f. IfSome f P) is holds
