use Rattle.std.proofs.Common.{◌≡◌, ℕ, ◌<◌, ◌≤◌, ltb, pos, List, [], ◌∷◌, length, Bool, true, false, cond, Option, Some, None, Ok, Err, refl, ap, sym, ◌∙◌, arith}
use Rattle.std.proofs.lemmas.Bool.{lt-ltb, le-ltb}
use Rattle.std.specs.Str.{IsUtf8, is_utf8}
use Rattle.std.proofs.lemmas.Str.{IsUtf8-from_is_utf8, is_utf8-from_IsUtf8}
use Rattle.toml.specs.Data.{Data, Members, as_array}
use Rattle.toml.specs.Parse.{parse_document}
use Rattle.toml.specs.View.{items_view}
use Rattle.toml.specs.declared.value.Value.{Value}
use Rattle.scenario_toml.specs.declared.fault.ScenarioFault.TheVariants.{Range}
use Rattle.scenario_toml.specs.Faults.{and_then}
use Rattle.scenario_toml.specs.Scenario.{tree_of}
use Rattle.scenario_toml.specs.Values.{array, count, few, of_kind}

-- bytes that are text have the tree of the text
pub tree_of-text : (bytes : List ℕ) (tree : Option Members) → IsUtf8 bytes → parse_document bytes ≡ tree → tree_of bytes ≡ tree
unfolding tree_of
tree_of-text bytes tree is read = ap (λ b. cond b (parse_document bytes) None) (is_utf8-from_IsUtf8 bytes is) ∙ read

refused : (bytes : List ℕ) (b : Bool) → is_utf8 bytes ≡ b → (IsUtf8 bytes → parse_document bytes ≡ None) → cond b (parse_document bytes) None ≡ None
refused bytes true is h = h (IsUtf8-from_is_utf8 bytes is)
refused bytes false is h = refl

-- bytes that are refused as a text have none
pub tree_of-refused : (bytes : List ℕ) → (IsUtf8 bytes → parse_document bytes ≡ None) → tree_of bytes ≡ None
unfolding tree_of
tree_of-refused bytes h = refused bytes (is_utf8 bytes) refl h

-- an array has as many items as it is seen with
pub count-view : (values : List Value) → count (items_view values) ≡ length values
count-view [] = refl
count-view (value ∷ values) = omega (arith, count-view values)

-- an array of more items than allowed
pub array-large : (key : List ℕ) (most : ℕ) (d : Data) (values : List Value) → Some (items_view values) ≡ as_array d → most < length values
    → array key most d ≡ Err (Range key (pos (length values)) (pos 0) (pos most))
array-large key most d values is large =
    let over : ltb most (count (items_view values)) ≡ true = lt-ltb most (count (items_view values)) (omega (arith, large, count-view values)) in
    ap (λ o. and_then (of_kind key o) (few key most)) (sym is)
    ∙ ap (λ b. cond b (Err (Range key (pos (count (items_view values))) (pos 0) (pos most))) (Ok (items_view values))) over
    ∙ ap (λ n. Err (Range key (pos n) (pos 0) (pos most))) (count-view values)

-- an array of as many as allowed
pub array-few : (key : List ℕ) (most : ℕ) (d : Data) (values : List Value) → Some (items_view values) ≡ as_array d → length values ≤ most
    → array key most d ≡ Ok (items_view values)
array-few key most d values is small =
    let under : ltb most (count (items_view values)) ≡ false = le-ltb most (count (items_view values)) (omega (arith, small, count-view values)) in
    ap (λ o. and_then (of_kind key o) (few key most)) (sym is)
    ∙ ap (λ b. cond b (Err (Range key (pos (count (items_view values))) (pos 0) (pos most))) (Ok (items_view values))) under
