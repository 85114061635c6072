-- The run on a draw list has the order that the draws name.
use Rattle.std.proofs.Common.{◌≡◌, ℕ, ◌+◌, Bool, cond, is_ok, List, [], ◌∷◌, get_or, sum, Ok, refl, ap, sym, ◌∙◌, arith}
use Rattle.std.proofs.lemmas.List.Elements.{All-head, All-tail}
use Rattle.std.proofs.lemmas.List.Sums.{sum_by-cons}
use Rattle.std.specs.List.{All, count_by}
use Rattle.std.specs.Str.{bytes_eq}
use Rattle.draw_split.specs.AllDraws.{all_draws}
use Rattle.draw_split.specs.DrawList.{IsDrawList}
use Rattle.draw_split.specs.Named.{named_order}
use Rattle.draw_split.proofs.Bijection.{no-other-listed, equally-many}
use Rattle.seed_draws.specs.Falling.{falling}
use Rattle.seed_draws.specs.TapeSource.{strict_tape}
use Rattle.seed_draws.proofs.Tapes.{loose-never, loose-source, strict-drawn, strict-source}
use Rattle.walk_rules.specs.declared.rule.Rule.TheVariants.{Surw}
use Rattle.run_rules.specs.declared.entry.Entry.{Entry}
use Rattle.run_rules.specs.EventsMade.{selected_order}
use Rattle.run_rules.specs.LegalJournal.{IsLegal}
use Rattle.run_rules.specs.Position.{position_of}
use Rattle.run_rules.specs.Run.{IsRunJournal}
use Rattle.run_rules.specs.Setup.{Script, IsValid}
use Rattle.run_rules.proofs.Existence.{run-exists}
use Rattle.run_rules.proofs.Scripts.{length-words}
use Rattle.selected_order.specs.EveryOrder.{with_tapes, EveryOrderOf, OrdersComeEquallyOftenOf}
use Rattle.selected_order.specs.SelectedOrder.{IsInDrawnOrder}
use Rattle.selected_order.specs.SurwScript.{IsTame}
use Rattle.selected_order.proofs.EndsInOrder.{ends-in-order}
use Rattle.selected_order.proofs.EndsUnforced.{IsDrawable, ends-unforced}

-- a strict tape of a draw list answers with it
list-drawn : (counts draws : List ℕ) → IsDrawList counts draws → (strict_tape draws).answers (falling (sum counts)) ≡ Ok draws
list-drawn counts draws list =
    let full = list.full in
    strict-drawn draws (sum counts) full (λ k lt. omega (arith, full, list.each k lt))

-- the tapes are no part of what is legal, nor of what is asked of a script
legal-tapes : (script : Script) (draws others : List ℕ) (journal : List Entry) → IsLegal (with_tapes script draws others) journal → IsLegal script journal
legal-tapes script draws others journal legal k entry at =
    let next = legal k entry at in
    record { announced = next.announced; enabled = next.enabled; replied = next.replied }

tame-tapes : (script : Script) (draws others : List ℕ) → IsTame script → IsTame (with_tapes script draws others)
tame-tapes script draws others tame = record {
  counted = tame.counted;
  free = λ journal legal. tame.free journal (legal-tapes script draws others journal legal);
  true_counts = λ journal legal. tame.true_counts journal (legal-tapes script draws others journal legal);
  short = λ journal legal. tame.short journal (legal-tapes script draws others journal legal);
}

-- what the theorem asks, on these tapes
drawable : (script : Script) (others draws : List ℕ) → script.setup.rule ≡ Surw → IsTame script → IsDrawList script.setup.counts draws
    → IsDrawable (with_tapes script draws others)
drawable script others draws rule tame list = record {
  rule = rule;
  tame = tame-tapes script draws others tame;
  selected = strict-source draws;
  other = loose-source others;
  all = ap is_ok (list-drawn script.setup.counts draws list);
  never = loose-never (record { entries = others; taken = 0 });
}

drawn-order : (script : Script) (others draws : List ℕ) (journal : List Entry) → script.setup.rule ≡ Surw → IsTame script
    → IsDrawList script.setup.counts draws → IsRunJournal (with_tapes script draws others) journal
    → IsInDrawnOrder (with_tapes script draws others).setup journal
unfolding position_of
drawn-order script others draws journal rule tame list run =
    let on : Script = with_tapes script draws others in
    let is : IsDrawable on = drawable script others draws rule tame list in
    let ends = ends-unforced on journal is.rule is.tame is.selected is.other is.all is.never run in
    ends-in-order on.setup (position_of on journal) is.rule is.selected is.other (tame.counted ∙ sym (length-words on journal)) run.going ends.1 ends.0

order-is : (script : Script) (others draws : List ℕ) (journal : List Entry) → script.setup.rule ≡ Surw → IsTame script
    → IsDrawList script.setup.counts draws → IsRunJournal (with_tapes script draws others) journal
    → selected_order script.setup.selection journal ≡ named_order script.setup.counts draws
order-is script others draws journal rule tame list run =
    let drawn = drawn-order script others draws journal rule tame list run in
    let same : Ok drawn.draws ≡ Ok draws = sym drawn.answered ∙ list-drawn script.setup.counts draws list in
    let one : drawn.draws ≡ draws = cc in
    drawn.gives.order_named ∙ ap (named_order script.setup.counts) one

pub every-order : (script : Script) → ((draws others : List ℕ) → IsValid (with_tapes script draws others).setup) → EveryOrderOf script
every-order script valid rule tame others draws list =
    let run = run-exists (with_tapes script draws others) (valid draws others) (strict-source draws) (loose-source others) in
    ((run.journal, run.is), λ journal is. order-is script others draws journal rule tame list is)

-- tests that agree on each item count the same
count-same : {X : Type 0} (p q : X → Bool) (xs : List X) → All (λ x. p x ≡ q x) xs → count_by p xs ≡ count_by q xs
count-same p q [] same = refl
count-same p q (x ∷ xs) same =
    sum_by-cons (λ y. cond (p y) 1 0) x xs
    ∙ (λ i. cond {A = ℕ} (All-head (λ y. p y ≡ q y) x xs same i) 1 0 + count-same p q xs (All-tail (λ y. p y ≡ q y) x xs same) i)
    ∙ sym (sum_by-cons (λ y. cond (q y) 1 0) x xs)

pub orders-come-equally-often : (script : Script) → OrdersComeEquallyOftenOf script
orders-come-equally-often script rule tame others_of journal_of runs order fits =
    let counts : List ℕ = script.setup.counts in
    let made : List ℕ → List ℕ = λ draws. selected_order script.setup.selection (journal_of draws) in
    count-same (λ draws. bytes_eq (made draws) order) (λ draws. bytes_eq (named_order counts draws) order) (all_draws counts)
    (λ k d lt.
    let draws : List ℕ = get_or (all_draws counts) k d in
    let list : IsDrawList counts draws = no-other-listed counts k d lt in
    ap (λ named. bytes_eq named order) (order-is script (others_of draws) draws (journal_of draws) rule tame list (runs draws list)))
    ∙ equally-many counts order fits
