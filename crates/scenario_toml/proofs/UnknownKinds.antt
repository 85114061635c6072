-- A text that names no kind of thread.
use Rattle.std.proofs.Common.{◌≡◌, ℕ, cond, List, [], ◌∷◌, ◌++◌, Some, None, Ok, Err, codes, refl, ap, sym, ◌∙◌, inl, inr}
use Rattle.std.proofs.lemmas.Bool.{false_from_ne_true}
use Rattle.std.specs.List.{find}
use Rattle.std.specs.Str.{bytes_eq}
use Rattle.surw_base.proofs.Tokens.{bytes-same}
use Rattle.toml.specs.Data.{Members}
use Rattle.scenario_toml.specs.declared.fault.ScenarioFault.{ScenarioFault}
use Rattle.scenario_toml.specs.declared.fault.ScenarioFault.TheVariants.{Name}
use Rattle.scenario_toml.specs.Faults.{and_then, IsFault, IsFaultOf}
use Rattle.scenario_toml.specs.Thread.{Kind, kind_of, kinds, routine_in}
use Rattle.scenario_toml.specs.Values.{meant, text_in}

-- a text is the name of none of these kinds
abbrev pub NamesNone : List ℕ → List Kind → Type 0
NamesNone text [] = Unit {0}
NamesNone text (kind ∷ rest) = (text ≡ kind.name → ⊥) × NamesNone text rest

none-named : (text : List ℕ) (some : List Kind) → NamesNone text some → find (λ kind. bytes_eq kind.name text) some ≡ None
none-named text [] others = refl
none-named text (kind ∷ rest) others =
    ap (λ b. cond b (Some kind) (find (λ (k : Kind). bytes_eq k.name text) rest))
    (false_from_ne_true (bytes_eq kind.name text) (λ same. others.0 (bytes-same kind.name text same)))
    ∙ none-named text rest others.1

-- so a thread's table has the fault of its kind
pub kind-unknown : (path text bytes key : List ℕ) (table : Members) (fault : ScenarioFault) → text_in path table (codes "kind") ≡ Ok text → NamesNone text kinds
    → bytes ≡ text → key ≡ path ++ codes "kind" → IsFault (Name key bytes) fault → IsFaultOf (routine_in path table) fault
unfolding routine_in
kind-unknown path text bytes key table fault is others same named (inl memory) = inl memory
kind-unknown path text bytes key table fault is others same named (inr due) =
    let none : kind_of text ≡ None = none-named text kinds others in
    let name : Name key bytes ≡ Name (path ++ codes "kind") text = cc in
    inr (ap (λ r. and_then r (λ t. and_then (meant (path ++ codes "kind") t (kind_of t)) (λ (kind : Kind). kind.routine path table))) is
    ∙ ap (λ o. and_then (meant (path ++ codes "kind") text o) (λ (kind : Kind). kind.routine path table)) none
    ∙ ap Err (sym (due ∙ name)))
