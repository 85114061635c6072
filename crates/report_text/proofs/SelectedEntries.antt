-- The selected entries of the first of a journal, with one entry more.
use Rattle.std.proofs.Common.{◌≡◌, ℕ, ◌+◌, ◌≤◌, Bool, true, false, cond, List, [], ◌∷◌, ◌++◌, take, map, Some, refl, ap, ◌∙◌, arith, append-nil, zero-add}
use Rattle.std.proofs.lemmas.Grind.{flat_map-append}
use Rattle.std.proofs.lemmas.List.{map-append}
use Rattle.std.proofs.lemmas.List.Elements.{filter-append}
use Rattle.std.proofs.lemmas.List.Sums.{sum_by-append}
use Rattle.std.specs.Int.{from_bool}
use Rattle.std.specs.Fmt.{decimal}
use Rattle.std.specs.List.{slice_get, filter}
use Rattle.event_class.specs.declared.pickable.Pickable.{Pickable}
use Rattle.event_class.specs.Selection.{has}
use Rattle.run_rules.specs.declared.entry.Entry.{Entry}
use Rattle.run_rules.specs.EventsMade.{selected_order}
use Rattle.report_text.specs.Counts.{selected_count}
use Rattle.surw_base.specs.Lines.{items_text}
use Rattle.report_text.proofs.TextPrefixes.{take-next}

byte : (b : Bool) → cond b 1 0 ≡ from_bool b
byte true = refl
byte false = refl

-- a selected entry counts, and no other does
pub count-next : (selection : List Pickable) (journal : List Entry) (k : ℕ) (entry : Entry) → slice_get journal k ≡ Some entry
    → selected_count selection (take (k + 1) journal) ≡ selected_count selection (take k journal) + from_bool (has selection entry.event)
unfolding selected_count
count-next selection journal k entry here =
    ap (selected_count selection) (take-next journal k entry here)
    ∙ sum_by-append (λ (e : Entry). cond (has selection e.event) 1 0) (take k journal) (entry ∷ [])
    ∙ ap (λ (n : ℕ). selected_count selection (take k journal) + n) (zero-add (cond (has selection entry.event) 1 0) ∙ byte (has selection entry.event))

pub at_most_one : (b : Bool) → from_bool b ≤ 1
at_most_one true = omega arith
at_most_one false = omega arith

pub count-none : (selection : List Pickable) → selected_count selection [] ≡ 0
unfolding selected_count
count-none selection = refl

-- one entry more, if it is chosen
one : (chosen : Bool) (entry : Entry) → map (λ (e : Entry). e.thread) (cond chosen (entry ∷ []) []) ≡ cond chosen (entry.thread ∷ []) []
one true entry = refl
one false entry = refl

order-next : (selection : List Pickable) (journal : List Entry) (k : ℕ) (entry : Entry) → slice_get journal k ≡ Some entry
    → selected_order selection (take (k + 1) journal) ≡ selected_order selection (take k journal) ++ cond (has selection entry.event) (entry.thread ∷ []) []
unfolding selected_order
order-next selection journal k entry here =
    ap (selected_order selection) (take-next journal k entry here)
    ∙ ap (map (λ (e : Entry). e.thread)) (filter-append (λ (e : Entry). has selection e.event) (take k journal) (entry ∷ []))
    ∙ map-append (λ (e : Entry). e.thread) (filter (λ (e : Entry). has selection e.event) (take k journal)) (cond (has selection entry.event) (entry ∷ []) [])
    ∙ ap (λ (l : List ℕ). selected_order selection (take k journal) ++ l) (one (has selection entry.event) entry)

-- a selected entry's thread is printed
pub order-takes : (selection : List Pickable) (journal : List Entry) (k : ℕ) (entry : Entry) → slice_get journal k ≡ Some entry → has selection entry.event ≡ true
    → items_text (selected_order selection (take (k + 1) journal)) ≡ items_text (selected_order selection (take k journal)) ++ 32 ∷ decimal entry.thread
order-takes selection journal k entry here chosen =
    let next : selected_order selection (take (k + 1) journal) ≡ selected_order selection (take k journal) ++ entry.thread ∷ [] =
    order-next selection journal k entry here ∙ ap (λ (b : Bool). selected_order selection (take k journal) ++ cond b (entry.thread ∷ []) []) chosen in
    ap items_text next
    ∙ flat_map-append (λ (n : ℕ). 32 ∷ decimal n) (selected_order selection (take k journal)) (entry.thread ∷ [])
    ∙ ap (λ (l : List ℕ). items_text (selected_order selection (take k journal)) ++ 32 ∷ l) (append-nil (decimal entry.thread))

-- and no other's
pub order-passes : (selection : List Pickable) (journal : List Entry) (k : ℕ) (entry : Entry) → slice_get journal k ≡ Some entry → has selection entry.event ≡ false
    → items_text (selected_order selection (take (k + 1) journal)) ≡ items_text (selected_order selection (take k journal))
order-passes selection journal k entry here passed =
    let next : selected_order selection (take (k + 1) journal) ≡ selected_order selection (take k journal) ++ [] =
    order-next selection journal k entry here ∙ ap (λ (b : Bool). selected_order selection (take k journal) ++ cond b (entry.thread ∷ []) []) passed in
    ap items_text (next ∙ append-nil (selected_order selection (take k journal)))

pub order-none : (selection : List Pickable) → selected_order selection [] ≡ []
unfolding selected_order
order-none selection = refl
