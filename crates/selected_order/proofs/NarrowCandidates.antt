-- While some thread announces an event there is a narrow candidate, where nothing blocks, the counts are true and the
-- selected source answers.
use Rattle.std.proofs.Common.{◌≡◌, ℕ, ◌-◌, ◌==◌, ◌&&◌, ◌||◌, ◌<◌, not, Bool, true, false, cond, IsOk, List, [], ◌∷◌, ◌++◌, length, map, sum, take, get_or, Option, None, Some, Ok, refl, ap, sym, ◌∙◌, inl, inr, arith}
use Rattle.std.proofs.lemmas.Bool.{cases_Bool, cases_eq, eq-eqb, ne_eqb, cond-true, cond-false, or_right}
use Rattle.std.proofs.lemmas.List.{get_or_push, length-map, length_push}
use Rattle.std.proofs.lemmas.List.FromFn.{length-range_with_len, get_or-range_with_len}
use Rattle.std.proofs.lemmas.List.Sums.{length-filter, sum_by_more_le, get_or-le-sum_by}
use Rattle.std.specs.List.{range_with_len}
use Rattle.draw_split.specs.Bag.{pick}
use Rattle.draw_split.proofs.Bag.{placed, listed}
use Rattle.seed_draws.specs.Answers.{IsSource}
use Rattle.seed_draws.specs.Falling.{falling}
use Rattle.seed_draws.proofs.Asked.{has-draws}
use Rattle.event_class.specs.declared.event.Event.{Event}
use Rattle.event_class.specs.Selection.{has}
use Rattle.walk_rules.specs.declared.seen.Seen.{Seen}
use Rattle.walk_rules.specs.declared.seen.Seen.TheVariants.{Able}
use Rattle.walk_rules.specs.Seen.{is_able, is_chosen, seen_of}
use Rattle.walk_rules.specs.Surw.{is_intended, is_narrow, narrow}
use Rattle.run_rules.specs.declared.entry.Entry.{Entry}
use Rattle.run_rules.specs.Intention.{picked_from, intended_by, intended_after}
use Rattle.run_rules.specs.LegalJournal.{IsLegal}
use Rattle.run_rules.specs.Position.{Position, position_of, seen_at}
use Rattle.run_rules.specs.Replies.{announcement}
use Rattle.run_rules.specs.Setup.{Setup, Script}
use Rattle.run_rules.proofs.Intentions.{intended-pushed}
use Rattle.run_rules.proofs.Numbers.{left-any, length-left}
use Rattle.run_rules.proofs.Scripts.{length-words}
use Rattle.run_rules.proofs.Words.{length-seen}
use Rattle.selected_order.specs.SurwScript.{IsNeverBlocked, IsTame}
use Rattle.selected_order.proofs.Announcements.{left-announces, seen-able}
use Rattle.selected_order.proofs.Completions.{HasAnnouncement, made-counted, made-fewer}
use Rattle.selected_order.proofs.InOrder.{IsInOrder, left_of, falling-more}

-- where a thread is a narrow candidate there is one among them
narrow-some : (intended : Option ℕ) (view : List Seen) (thread : ℕ) → thread < length view → is_narrow intended view thread ≡ true
    → 0 < length (narrow intended view)
unfolding narrow
narrow-some intended view thread within is =
    let test : ℕ → Bool = is_narrow intended view in
    let threads : List ℕ = range_with_len 0 (length view) in
    let at : get_or threads thread 0 ≡ thread = get_or-range_with_len 0 (length view) thread 0 within ∙ omega arith in
    let one : cond {A = ℕ} (test (get_or threads thread 0)) 1 0 ≡ 1 = ap (λ (b : Bool). cond {A = ℕ} b 1 0) (ap test at ∙ is) in
    let inside : thread < length threads = omega (arith, within, length-range_with_len 0 (length view)) in
    omega (arith, one, length-filter test threads, sum_by_more_le (λ t. cond (test t) 1 0) threads thread 0 inside)

able-narrow : (intended : Option ℕ) (seen : Seen) (thread : ℕ) (chosen : Bool) → seen ≡ Able chosen
    → (not chosen || is_intended intended thread) ≡ true → (is_able seen && (not (is_chosen seen) || is_intended intended thread)) ≡ true
able-narrow intended seen thread chosen is or = ap (λ (s : Seen). is_able s && (not (is_chosen s) || is_intended intended thread)) is ∙ or

-- a thread that announces an event is one, where the event isn't selected or the thread is intended
pub word-narrow : (script : Script) (journal : List Entry) (intended : Option ℕ) (thread : ℕ) (event : Event) → IsNeverBlocked script
    → IsLegal script journal → thread < script.setup.threads → announcement script journal thread ≡ Some event
    → (not (has script.setup.selection event) || is_intended intended thread) ≡ true
    → 0 < length (narrow intended (seen_at script.setup (position_of script journal)))
word-narrow script journal intended thread event free legal within announced or =
    let x : Position = position_of script journal in
    let view : List Seen = seen_at script.setup x in
    let able = seen-able script journal thread event free legal within announced in
    narrow-some intended view thread (omega (arith, within, length-seen script.setup x, length-words script journal))
    (able-narrow intended (seen_of view thread) thread (has script.setup.selection event) able or)

-- so an intended thread that announces one is
pub intended-narrow : (script : Script) (journal : List Entry) (thread : ℕ) (event : Event) → IsNeverBlocked script → IsLegal script journal
    → thread < script.setup.threads → announcement script journal thread ≡ Some event
    → 0 < length (narrow (Some thread) (seen_at script.setup (position_of script journal)))
intended-narrow script journal thread event free legal within announced =
    word-narrow script journal (Some thread) thread event free legal within announced
    (or_right (not (has script.setup.selection event)) (thread == thread) (eq-eqb thread thread refl))

-- the intention is answered, and there is a narrow candidate
pub record HasNarrow (setup : Setup) (x : Position) : Type 0 where
  pub intended : Option ℕ
  pub is : intended_after setup x.journal ≡ Ok intended
  pub some : 0 < length (narrow intended (seen_at setup x))

-- ---- where nothing is left, a thread with a word announces an event that isn't selected

unselected : (script : Script) (journal : List Entry) (thread : ℕ) (event : Event) → IsTame script → IsLegal script journal
    → thread < script.setup.threads → announcement script journal thread ≡ Some event → sum (left_of script.setup journal) ≡ 0
    → has script.setup.selection event ≡ false
unselected script journal thread event tame legal within announced none = elim (cases_Bool (has script.setup.selection event)) [
  | inl selected ↦
      let left : List ℕ = left_of script.setup journal in
      let inside : thread < length left = omega (arith, within, tame.counted, length-left script.setup.selection script.setup.counts journal) in
      absurd (omega (
        arith,
        none,
        made-fewer script journal thread event tame legal within announced selected,
        left-any script.setup.selection script.setup.counts journal thread,
        get_or-le-sum_by (λ n. n) left thread 0 inside,
      ))
  | inr skipped ↦ skipped
]

narrow-none : (script : Script) (journal : List Entry) → IsTame script → IsLegal script journal → IsInOrder script.setup journal
    → HasAnnouncement (announcement script journal) script.setup.threads → sum (left_of script.setup journal) ≡ 0
    → HasNarrow script.setup (position_of script journal)
unfolding position_of intended_after
narrow-none script journal tame legal order going none =
    let setup : Setup = script.setup in
    let answers = setup.selected.answers in
    let left : List ℕ = left_of setup journal in
    let picked = picked_from left (length order.before) (answers (map sum order.before ++ sum left ∷ [])) in
    let skipped = unselected script journal going.thread going.event tame legal going.within going.is none in
    record {
      intended = None;
      is = ap (intended_by answers) order.asked ∙ intended-pushed answers order.before left
          ∙ cond-true (sum left == 0) (Ok None) picked (eq-eqb (sum left) 0 none);
      some = word-narrow script journal None going.thread going.event tame.free legal going.within going.is (ap (λ (b : Bool). not b || false) skipped);
    }

-- ---- where something is left, the intended thread is one

-- the draw that intends a thread
record HasDraw (setup : Setup) (journal : List Entry) : Type 0 where
  thread : ℕ
  is : intended_after setup journal ≡ Ok (Some thread)
  some : 0 < get_or (left_of setup journal) thread 0

has-draw : (setup : Setup) (journal : List Entry) → IsSource setup.selected.answers
    → IsOk (setup.selected.answers (falling (sum setup.counts))) → IsInOrder setup journal → 0 < sum (left_of setup journal)
    → HasDraw setup journal
unfolding intended_after
has-draw setup journal source all order some =
    let answers = setup.selected.answers in
    let answered_all = has-draws (answers (falling (sum setup.counts))) all in
    let left : List ℕ = left_of setup journal in
    let sums : List ℕ = map sum order.before in
    let place : ℕ = length order.before in
    let bounds : List ℕ = sums ++ sum left ∷ [] in
    let later : List ℕ = falling (sum left - 1) in
    let cut : bounds ++ later ≡ falling (sum setup.counts) = sym (falling-more sums (sum left) (sum left - 1) (omega (arith, some))) ∙ order.falls in
    let draws : List ℕ = take (length bounds) answered_all.draws in
    let answered : answers bounds ≡ Ok draws = source.first bounds later answered_all.draws (ap answers cut ∙ answered_all.is) in
    let draw : ℕ = get_or draws place 0 in
    let last : get_or bounds place 0 ≡ sum left = get_or_push sums (sum left) 0 place (length-map order.before sum) in
    let inside : place < length bounds = omega (arith, length_push sums (sum left), length-map order.before sum) in
    let below : draw < sum left = omega (arith, last, source.below bounds draws answered place inside (omega (arith, last, some))) in
    let at = placed left draw below in
    record {
      thread = pick left draw;
      is = ap (intended_by answers) order.asked ∙ intended-pushed answers order.before left
          ∙ cond-false (sum left == 0) (Ok None) (picked_from left place (answers bounds)) (ne_eqb (sum left) 0 (omega (arith, some)))
          ∙ ap (picked_from left place) answered;
      some = omega (arith, at.within);
    }

narrow-left : (script : Script) (journal : List Entry) → IsTame script → IsSource script.setup.selected.answers
    → IsOk (script.setup.selected.answers (falling (sum script.setup.counts))) → IsLegal script journal → IsInOrder script.setup journal
    → 0 < sum (left_of script.setup journal) → HasNarrow script.setup (position_of script journal)
unfolding position_of
narrow-left script journal tame source all legal order some =
    let setup : Setup = script.setup in
    let drawn : HasDraw setup journal = has-draw setup journal source all order some in
    let thread : ℕ = drawn.thread in
    let left : List ℕ = left_of setup journal in
    let more = drawn.some in
    let within : thread < setup.threads =
    omega (arith, listed left thread 0 (omega (arith, more)), length-left setup.selection setup.counts journal, tame.counted) in
    let word = left-announces (get_or left thread 0) (announcement script journal thread) drawn.some (λ ended.
    omega (arith, left-any setup.selection setup.counts journal thread, made-counted script journal thread tame legal within ended)) in
    record { intended = Some thread; is = drawn.is; some = intended-narrow script journal thread word.event tame.free legal within word.is }

pub has-narrow : (script : Script) (journal : List Entry) → IsTame script → IsSource script.setup.selected.answers
    → IsOk (script.setup.selected.answers (falling (sum script.setup.counts))) → IsLegal script journal → IsInOrder script.setup journal
    → HasAnnouncement (announcement script journal) script.setup.threads → HasNarrow script.setup (position_of script journal)
has-narrow script journal tame source all legal order going = elim (cases_eq (sum (left_of script.setup journal)) 0) [
  | inl none ↦ narrow-none script journal tame legal order going none
  | inr some ↦ narrow-left script journal tame source all legal order (omega (arith, some))
]
