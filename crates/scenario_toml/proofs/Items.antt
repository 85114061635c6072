-- Items that are read one after another: what is read so far, and what the items left give.
use Rattle.std.proofs.Common.{◌≡◌, ℕ, ◌+◌, ◌<◌, ◌≤◌, List, [], ◌∷◌, ◌++◌, length, get_or, drop, Result, Ok, Err, refl, ap, sym, ◌∙◌, inl, inr}
use Rattle.std.proofs.lemmas.List.{append-nil, append_assoc, drop_more, drop_all}
use Rattle.toml.proofs.Views.{items_view-drop}
use Rattle.toml.specs.Data.{Data}
use Rattle.toml.specs.View.{view, items_view}
use Rattle.toml.specs.declared.value.Value.{Value}
use Rattle.test_world.specs.declared.monitor.Monitor.{Monitor}
use Rattle.scenario_toml.specs.declared.fault.ScenarioFault.{ScenarioFault}
use Rattle.scenario_toml.specs.declared.watch.Watch.{Watch}
use Rattle.scenario_toml.specs.Faults.{and_then, IsFaultOf}
use Rattle.scenario_toml.specs.Monitors.{monitor_of, monitors_from}
use Rattle.scenario_toml.specs.Values.{each}

-- what was read, before what is read yet
abbrev pub behind : {A : Type 0} → List A → Result (List A) ScenarioFault → Result (List A) ScenarioFault
behind done rest = and_then rest (λ values. Ok (done ++ values))

behind-none : {A : Type 0} (rest : Result (List A) ScenarioFault) → behind [] rest ≡ rest
behind-none (Ok values) = refl
behind-none (Err fault) = refl

-- one value more was read
one_more : {A : Type 0} (done : List A) (value : A) (rest : Result (List A) ScenarioFault)
    → behind done (and_then rest (λ values. Ok (value ∷ values))) ≡ behind (done ++ value ∷ []) rest
one_more done value (Ok values) = ap Ok (sym (append_assoc done (value ∷ []) values))
one_more done value (Err fault) = refl

pub each-first : {A : Type 0} (read : ℕ → Data → Result A ScenarioFault) (values : List Value) → behind [] (each read 0 (items_view values)) ≡ each read 0 (items_view values)
each-first read values = behind-none (each read 0 (items_view values))

pub each-more : {A : Type 0} (read : ℕ → Data → Result A ScenarioFault) (values : List Value) (i : ℕ) (d : Value) (done : List A) (found : A) (whole : Result (List A) ScenarioFault)
    → i < length values → d ≡ get_or values i d → read i (view d) ≡ Ok found → behind done (each read i (items_view (drop i values))) ≡ whole
    → behind (done ++ found ∷ []) (each read (i + 1) (items_view (drop (i + 1) values))) ≡ whole
unfolding each
each-more read values i d done found whole lt at is so_far =
    let rest = each read (i + 1) (items_view (drop (i + 1) values)) in
    let split : each read i (items_view (drop i values)) ≡ and_then (read i (view (get_or values i d))) (λ value. and_then rest (λ more. Ok (value ∷ more))) =
    ap (each read i) (items_view-drop values i d lt) in
    let first : each read i (items_view (drop i values)) ≡ and_then rest (λ more. Ok (found ∷ more)) =
    split ∙ ap (λ r. and_then r (λ value. and_then rest (λ more. Ok (value ∷ more)))) (sym (ap (λ v. read i (view v)) at) ∙ is) in
    sym (one_more done found rest) ∙ sym (ap (behind done) first) ∙ so_far

pub each-fault : {A : Type 0} (read : ℕ → Data → Result A ScenarioFault) (values : List Value) (i : ℕ) (d : Value) (done : List A) (fault : ScenarioFault) (whole : Result (List A) ScenarioFault)
    → i < length values → d ≡ get_or values i d → IsFaultOf (read i (view d)) fault → behind done (each read i (items_view (drop i values))) ≡ whole
    → IsFaultOf whole fault
unfolding each
each-fault read values i d done fault whole lt at (inl memory) so_far = inl memory
each-fault read values i d done fault whole lt at (inr is) so_far =
    let rest = each read (i + 1) (items_view (drop (i + 1) values)) in
    let split : each read i (items_view (drop i values)) ≡ and_then (read i (view (get_or values i d))) (λ value. and_then rest (λ more. Ok (value ∷ more))) =
    ap (each read i) (items_view-drop values i d lt) in
    let first : each read i (items_view (drop i values)) ≡ Err fault =
    split ∙ ap (λ r. and_then r (λ value. and_then rest (λ more. Ok (value ∷ more)))) (sym (ap (λ v. read i (view v)) at) ∙ is) in
    inr (sym so_far ∙ ap (behind done) first)

pub each-all : {A : Type 0} (read : ℕ → Data → Result A ScenarioFault) (values : List Value) (i : ℕ) (done : List A) (whole : Result (List A) ScenarioFault)
    → length values ≤ i → behind done (each read i (items_view (drop i values))) ≡ whole → whole ≡ Ok done
unfolding each
each-all read values i done whole le so_far =
    let none : each read i (items_view (drop i values)) ≡ Ok [] = ap (λ l. each read i (items_view l)) (drop_all i values le) in
    sym so_far ∙ ap (behind done) none ∙ ap Ok (append-nil done)

-- the same for monitors
pub monitors-first : (cells : ℕ) (watches : List Watch) → behind [] (monitors_from cells 0 watches) ≡ monitors_from cells 0 watches
monitors-first cells watches = behind-none (monitors_from cells 0 watches)

pub monitors-more : (cells : ℕ) (watches : List Watch) (i : ℕ) (d : Watch) (done : List Monitor) (found : Monitor) (whole : Result (List Monitor) ScenarioFault)
    → i < length watches → monitor_of cells i (get_or watches i d) ≡ Ok found → behind done (monitors_from cells i (drop i watches)) ≡ whole
    → behind (done ++ found ∷ []) (monitors_from cells (i + 1) (drop (i + 1) watches)) ≡ whole
unfolding monitors_from
monitors-more cells watches i d done found whole lt is so_far =
    let rest = monitors_from cells (i + 1) (drop (i + 1) watches) in
    let split : monitors_from cells i (drop i watches) ≡ and_then (monitor_of cells i (get_or watches i d)) (λ value. and_then rest (λ more. Ok (value ∷ more))) =
    ap (monitors_from cells i) (drop_more watches i d lt) in
    let first : monitors_from cells i (drop i watches) ≡ and_then rest (λ more. Ok (found ∷ more)) =
    split ∙ ap (λ r. and_then r (λ value. and_then rest (λ more. Ok (value ∷ more)))) is in
    sym (one_more done found rest) ∙ sym (ap (behind done) first) ∙ so_far

pub monitors-fault : (cells : ℕ) (watches : List Watch) (i : ℕ) (d : Watch) (done : List Monitor) (fault : ScenarioFault) (whole : Result (List Monitor) ScenarioFault)
    → i < length watches → IsFaultOf (monitor_of cells i (get_or watches i d)) fault → behind done (monitors_from cells i (drop i watches)) ≡ whole
    → IsFaultOf whole fault
unfolding monitors_from
monitors-fault cells watches i d done fault whole lt (inl memory) so_far = inl memory
monitors-fault cells watches i d done fault whole lt (inr is) so_far =
    let rest = monitors_from cells (i + 1) (drop (i + 1) watches) in
    let split : monitors_from cells i (drop i watches) ≡ and_then (monitor_of cells i (get_or watches i d)) (λ value. and_then rest (λ more. Ok (value ∷ more))) =
    ap (monitors_from cells i) (drop_more watches i d lt) in
    let first : monitors_from cells i (drop i watches) ≡ Err fault =
    split ∙ ap (λ r. and_then r (λ value. and_then rest (λ more. Ok (value ∷ more)))) is in
    inr (sym so_far ∙ ap (behind done) first)

pub monitors-all : (cells : ℕ) (watches : List Watch) (i : ℕ) (done : List Monitor) (whole : Result (List Monitor) ScenarioFault)
    → length watches ≤ i → behind done (monitors_from cells i (drop i watches)) ≡ whole → whole ≡ Ok done
unfolding monitors_from
monitors-all cells watches i done whole le so_far =
    let none : monitors_from cells i (drop i watches) ≡ Ok [] = ap (monitors_from cells i) (drop_all i watches le) in
    sym so_far ∙ ap (behind done) none ∙ ap Ok (append-nil done)
