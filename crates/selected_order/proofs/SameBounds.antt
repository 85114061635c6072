-- Where every event is selected and nothing blocks, the sums that SURW asks for its intentions are the bounds of URW.
use Rattle.std.proofs.Common.{◌≡◌, ◌&&◌, not, true, false, List, [], ◌∷◌, ◌++◌, length, map, sum, ℕ, ◌+◌, None, Some, refl, ap, sym, ◌∙◌, arith}
use Rattle.std.proofs.lemmas.List.{length_push, map-append, flat_map_more}
use Rattle.run_rules.specs.declared.entry.Entry.{Entry}
use Rattle.run_rules.specs.Bounds.{bounds_over}
use Rattle.run_rules.specs.Intention.{ends_intention, ending_prefixes, intention_lefts}
use Rattle.run_rules.specs.LegalJournal.{IsLegal}
use Rattle.run_rules.specs.Position.{Position, earlier, position_at, position_of}
use Rattle.run_rules.specs.Replies.{announcement}
use Rattle.run_rules.specs.Setup.{Setup, Script}
use Rattle.run_rules.specs.UrwChoice.{urw_bounds_at}
use Rattle.run_rules.specs.Verdict.{first_miscounted}
use Rattle.run_rules.proofs.EarlierPositions.{earlier-next}
use Rattle.run_rules.proofs.Intentions.{lefts-more}
use Rattle.run_rules.proofs.Scripts.{script-here, script-more}
use Rattle.selected_order.proofs.InOrder.{left_of}
use Rattle.selected_order.proofs.SameNumbers.{IsEvery, has-every, kept-all}

-- URW's bound at a position is the sum of all that is left
pub bound-is : (script : Script) (journal : List Entry) → IsEvery script → IsLegal script journal
    → first_miscounted script.setup (position_of script journal) ≡ None
    → urw_bounds_at script.setup (position_of script journal) ≡ sum (left_of script.setup journal) ∷ []
unfolding position_of
bound-is script journal is legal counted = ap (λ (left : List ℕ). sum left ∷ []) (kept-all script journal is legal counted)

-- one intention for each entry, each asked as URW's bound there
pub record IsStepwise (script : Script) (journal : List Entry) : Type 0 where
  pub before : List (List ℕ)
  pub asked : intention_lefts script.setup.selection script.setup.counts journal ≡ before ++ left_of script.setup journal ∷ []
  pub bounds : map sum before ≡ bounds_over (urw_bounds_at script.setup) (earlier (position_of script journal))

pub stepwise-none : (script : Script) → IsStepwise script []
unfolding intention_lefts ending_prefixes earlier position_of
stepwise-none script = record { before = []; asked = refl; bounds = refl }

-- the positions before an entry more are those so far, and this one
earlier-longer : (script : Script) (journal : List Entry) (entry : Entry) → announcement script journal entry.thread ≡ Some entry.event
    → earlier (position_of script (journal ++ entry ∷ [])) ≡ earlier (position_of script journal) ++ position_of script journal ∷ []
unfolding position_of
earlier-longer script journal entry announced =
    let x : Position = position_of script (journal ++ entry ∷ []) in
    let n : ℕ = length journal in
    let here : position_at x n ≡ position_of script journal = script-more script journal entry n announced (omega arith) ∙ script-here script journal in
    let last : position_at x (n + 1) ≡ x = ap (position_at x) (sym (length_push journal entry)) ∙ script-here script (journal ++ entry ∷ []) in
    ap earlier (sym last) ∙ earlier-next x n (omega (arith, length_push journal entry)) ∙ (λ i. earlier (here i) ++ here i ∷ [])

pub stepwise-more : (script : Script) (journal : List Entry) (entry : Entry) → IsEvery script → IsLegal script journal
    → first_miscounted script.setup (position_of script journal) ≡ None → announcement script journal entry.thread ≡ Some entry.event
    → entry.forced ≡ false → IsStepwise script journal → IsStepwise script (journal ++ entry ∷ [])
stepwise-more script journal entry is legal counted announced unforced so_far =
    let setup : Setup = script.setup in
    let x : Position = position_of script journal in
    let left : List ℕ = left_of setup journal in
    let selected = has-every script entry.event is in
    let end : ends_intention setup.selection entry ≡ true = (λ i. selected i && not (unforced i)) in
    record {
      before = so_far.before ++ left ∷ [];
      asked = lefts-more setup.selection setup.counts journal entry end
          ∙ ap (λ lefts. lefts ++ left_of setup (journal ++ entry ∷ []) ∷ []) so_far.asked;
      bounds = map-append sum so_far.before (left ∷ [])
          ∙ (λ i. so_far.bounds i ++ sym (bound-is script journal is legal counted) i)
          ∙ flat_map_more (urw_bounds_at setup) [] (earlier x) x
          ∙ ap (bounds_over (urw_bounds_at setup)) (sym (earlier-longer script journal entry announced));
    }
