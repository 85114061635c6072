-- No count is wrong after a legal journal of a script whose counts are true.
use Rattle.std.proofs.Common.{◌≡◌, ℕ, ◌<◌, nat_le, Bool, true, false, List, length, get_or, Option, None, Some, refl, ap, sym, ◌∙◌, inl, inr, arith}
use Rattle.std.proofs.lemmas.Bool.{cases_Bool, le-ltb, lt-leb, and_left, and_right}
use Rattle.std.proofs.lemmas.List.FromFn.{length-range_with_len, get_or-range_with_len}
use Rattle.std.specs.List.{range_with_len}
use Rattle.event_class.specs.declared.event.Event.{Event}
use Rattle.event_class.specs.declared.pickable.Pickable.{Pickable}
use Rattle.event_class.specs.Selection.{has}
use Rattle.walk_rules.proofs.WrongThreads.{find-none}
use Rattle.run_rules.specs.declared.entry.Entry.{Entry}
use Rattle.run_rules.specs.EventsMade.{events_made}
use Rattle.run_rules.specs.LegalJournal.{IsLegal}
use Rattle.run_rules.specs.Position.{Position, position_of}
use Rattle.run_rules.specs.Replies.{announcement}
use Rattle.run_rules.specs.Setup.{Setup, Script}
use Rattle.run_rules.specs.Verdict.{is_miscounted, first_miscounted}
use Rattle.run_rules.proofs.Scripts.{length-words, word-announcement}
use Rattle.selected_order.specs.SurwScript.{IsTame}
use Rattle.selected_order.proofs.Completions.{made-counted, made-fewer}

well-counted : (selection : List Pickable) (counted made : ℕ) (word : Option Event) → (word ≡ None → made ≡ counted)
    → ((event : Event) → word ≡ Some event → has selection event ≡ true → made < counted) → is_miscounted selection counted made word ≡ false
well-counted selection counted made None ended going = le-ltb made counted (omega (arith, ended refl))
well-counted selection counted made (Some event) ended going = elim (cases_Bool (has selection event)) [
  | inl selected ↦ and_right (has selection event) (nat_le counted made) (lt-leb counted made (going event refl selected))
  | inr skipped ↦ and_left (has selection event) (nat_le counted made) skipped
]

pub none-miscounted : (script : Script) (journal : List Entry) → IsTame script → IsLegal script journal
    → first_miscounted script.setup (position_of script journal) ≡ None
unfolding position_of
none-miscounted script journal tame legal =
    let setup : Setup = script.setup in
    let x : Position = position_of script journal in
    let n : ℕ = length x.words in
    let made : ℕ → ℕ = λ thread. events_made setup.selection journal thread in
    let test : ℕ → Bool = λ thread. is_miscounted setup.selection (get_or setup.counts thread 0) (made thread) (get_or x.words thread None) in
    find-none test (range_with_len 0 n) (λ k lt.
    let within : k < n = omega (arith, lt, length-range_with_len 0 n) in
    let below : k < setup.threads = omega (arith, within, length-words script journal) in
    let word : get_or x.words k None ≡ announcement script journal k = word-announcement script journal k below in
    ap test (get_or-range_with_len 0 n k 0 within ∙ omega arith)
    ∙ well-counted setup.selection (get_or setup.counts k 0) (made k) (get_or x.words k None)
    (λ none. made-counted script journal k tame legal below (sym word ∙ none))
    (λ event some selected. made-fewer script journal k event tame legal below (sym word ∙ some) selected))
