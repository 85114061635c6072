-- Wrong counts by the numbers left are those by the events made.
use Rattle.std.proofs.Common.{◌≡◌, ℕ, ◌-◌, ◌&&◌, ◌≤◌, eqb, ltb, leb, Bool, true, false, cond, length, get_or, List, Option, None, Some, IsTrue, refl, ap, sym, ◌∙◌, inl, inr, arith}
use Rattle.std.proofs.lemmas.Bool.{cases_lt, eq-eqb, ne_eqb, lt-ltb, le-ltb, le-leb, lt-leb}
use Rattle.std.proofs.lemmas.Option.{none-some}
use Rattle.std.specs.List.{find, range_with_len}
use Rattle.std.specs.Option.{option_map}
use Rattle.event_class.specs.declared.event.Event.{Event}
use Rattle.event_class.specs.declared.pickable.Pickable.{Pickable}
use Rattle.event_class.specs.Selection.{has}
use Rattle.test_world.specs.World.{WorldState, is_enabled}
use Rattle.walk_rules.specs.declared.seen.Seen.TheVariants.{Held, Able}
use Rattle.walk_rules.specs.Seen.{seen_of}
use Rattle.walk_rules.specs.Strategies.{counts_down}
use Rattle.walk_rules.specs.Walk.{first_wrong, is_wrong, wrong_by}
use Rattle.run_rules.specs.declared.verdict.Verdict.TheVariants.{WrongCount}
use Rattle.run_rules.specs.EventsMade.{events_made}
use Rattle.run_rules.specs.NumbersLeft.{left_at, left_by}
use Rattle.run_rules.specs.Position.{Position, seen_at, seen_word, world_at}
use Rattle.run_rules.specs.Setup.{Setup}
use Rattle.run_rules.specs.Verdict.{first_miscounted, is_miscounted, is_miscounted_at, miscount, wrong_count}
use Rattle.run_rules.proofs.MonitorFailures.{find-range-same}
use Rattle.run_rules.proofs.Numbers.{left-any}
use Rattle.run_rules.proofs.Words.{length-seen, seen-at}

-- whether a thread is wrong, by what is left of its count
none-left : (counted made : ℕ) → eqb (counted - made) 0 ≡ leb counted made
none-left counted made = elim (cases_lt made counted) [
  | inl fewer ↦ ne_eqb (counted - made) 0 (λ e. absurd (omega (arith, e, fewer))) ∙ sym (lt-leb counted made fewer)
  | inr all ↦ eq-eqb (counted - made) 0 (omega (arith, all)) ∙ sym (le-leb counted made all)
]

some-left : (counted made : ℕ) → ltb 0 (counted - made) ≡ ltb made counted
some-left counted made = elim (cases_lt made counted) [
  | inl fewer ↦ lt-ltb 0 (counted - made) (omega (arith, fewer)) ∙ sym (lt-ltb made counted fewer)
  | inr all ↦ le-ltb 0 (counted - made) (omega (arith, all)) ∙ sym (le-ltb made counted all)
]

wrong-event : (left : ℕ) (chosen enabled : Bool) → is_wrong left (cond enabled (Able chosen) (Held chosen)) ≡ (chosen && eqb left 0)
wrong-event left chosen true = refl
wrong-event left chosen false = refl

wrong-word : (world : WorldState) (selection : List Pickable) (counted made : ℕ) (word : Option Event)
    → is_wrong (counted - made) (seen_word world selection word) ≡ is_miscounted selection counted made word
wrong-word world selection counted made None = some-left counted made
wrong-word world selection counted made (Some event) =
    wrong-event (counted - made) (has selection event) (is_enabled world event) ∙ ap (λ (b : Bool). has selection event && b) (none-left counted made)

-- the first wrong thread by the numbers left is the first miscounted one
first-wrong : (setup : Setup) (x : Position) → first_wrong (left_at setup x) (seen_at setup x) ≡ first_miscounted setup x
first-wrong setup x =
    ap (λ n. find (λ thread. is_wrong (get_or (left_at setup x) thread 0) (seen_of (seen_at setup x) thread)) (range_with_len 0 n)) (length-seen setup x)
    ∙ find-range-same
    (λ thread. is_wrong (get_or (left_at setup x) thread 0) (seen_of (seen_at setup x) thread))
    (is_miscounted_at setup x)
    (length x.words)
    (λ thread below.
    ap (λ left. is_wrong left (seen_of (seen_at setup x) thread)) (left-any setup.selection setup.counts x.journal thread)
    ∙ ap (λ seen. is_wrong (get_or setup.counts thread 0 - events_made setup.selection x.journal thread) seen) (seen-at setup x thread)
    ∙ wrong-word (world_at setup x) setup.selection (get_or setup.counts thread 0) (events_made setup.selection x.journal thread) (get_or x.words thread None))

-- what a wrong thread made is its count less what is left
wrong-made : (step counted left made thread : ℕ) → left ≡ counted - made → made ≤ counted
    → WrongCount step thread counted (counted - left) ≡ WrongCount step thread counted made
wrong-made step counted left made thread is within = ap (λ n. WrongCount step thread counted n) (omega (arith, is, within))

named : (setup : Setup) (x : Position) (o : Option ℕ) → ((thread : ℕ) → events_made setup.selection x.journal thread ≤ get_or setup.counts thread 0)
    → option_map (λ (w : ℕ × ℕ × ℕ). WrongCount (length x.journal) w.0 w.1 w.2)
    (option_map (λ thread. (thread, get_or setup.counts thread 0, get_or setup.counts thread 0 - get_or (left_at setup x) thread 0)) o)
    ≡ option_map (miscount setup x) o
named setup x None made = refl
named setup x (Some thread) made =
    ap Some (wrong-made (length x.journal) (get_or setup.counts thread 0) (get_or (left_at setup x) thread 0) (events_made setup.selection x.journal thread) thread
    (left-any setup.selection setup.counts x.journal thread) (made thread))

counts-follow : (counting : Bool) (setup : Setup) (x : Position)
    → (IsTrue counting → (thread : ℕ) → events_made setup.selection x.journal thread ≤ get_or setup.counts thread 0)
    → option_map (λ (w : ℕ × ℕ × ℕ). WrongCount (length x.journal) w.0 w.1 w.2) (wrong_by counting setup.counts (left_by counting setup x) (seen_at setup x))
    ≡ cond counting (option_map (miscount setup x) (first_miscounted setup x)) None
counts-follow true setup x made =
    ap (λ o. option_map (λ (w : ℕ × ℕ × ℕ). WrongCount (length x.journal) w.0 w.1 w.2)
    (option_map (λ thread. (thread, get_or setup.counts thread 0, get_or setup.counts thread 0 - get_or (left_at setup x) thread 0)) o)) (first-wrong setup x)
    ∙ named setup x (first_miscounted setup x) (made refl)
counts-follow false setup x made = refl

-- where no thread made more than counted, the wrong count by the numbers left is the one by the events made
pub wrong-follows : (setup : Setup) (x : Position)
    → (IsTrue (counts_down setup.rule) → (thread : ℕ) → events_made setup.selection x.journal thread ≤ get_or setup.counts thread 0)
    → option_map (λ (w : ℕ × ℕ × ℕ). WrongCount (length x.journal) w.0 w.1 w.2)
    (wrong_by (counts_down setup.rule) setup.counts (left_by (counts_down setup.rule) setup x) (seen_at setup x))
    ≡ wrong_count setup x
wrong-follows setup x made = counts-follow (counts_down setup.rule) setup x made

none-mapped : {A B : Type 0} (f : A → B) (found : Option A) → option_map f found ≡ None → found ≡ None
none-mapped f None none = refl
none-mapped f (Some x) none = absurd (none-some (f x) (sym none))

right-counts : (counting : Bool) (setup : Setup) (x : Position)
    → cond counting (option_map (miscount setup x) (first_miscounted setup x)) None ≡ None
    → wrong_by counting setup.counts (left_by counting setup x) (seen_at setup x) ≡ None
right-counts true setup x none =
    let found = first-wrong setup x
    ∙ none-mapped (miscount setup x) (first_miscounted setup x) none in
    ap (λ o. option_map (λ thread. (thread, get_or setup.counts thread 0, get_or setup.counts thread 0 - get_or (left_at setup x) thread 0)) o) found
right-counts false setup x none = refl

-- where no count is wrong none is by the numbers left
pub counts-right : (setup : Setup) (x : Position) → wrong_count setup x ≡ None
    → wrong_by (counts_down setup.rule) setup.counts (left_by (counts_down setup.rule) setup x) (seen_at setup x) ≡ None
counts-right setup x none = right-counts (counts_down setup.rule) setup x none

miscounted-none : (counting : Bool) (setup : Setup) (x : Position) → IsTrue counting
    → cond counting (option_map (miscount setup x) (first_miscounted setup x)) None ≡ None
    → first_miscounted setup x ≡ None
miscounted-none true setup x counts none = none-mapped (miscount setup x) (first_miscounted setup x) none
miscounted-none false setup x counts none = cc

-- and no thread is miscounted, where the rule counts
pub none-miscounted : (setup : Setup) (x : Position) → IsTrue (counts_down setup.rule) → wrong_count setup x ≡ None → first_miscounted setup x ≡ None
none-miscounted setup x counts none = miscounted-none (counts_down setup.rule) setup x counts none
