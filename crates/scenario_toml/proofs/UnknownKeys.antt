-- The first key of a table that isn't known.
use Rattle.std.proofs.Common.{◌≡◌, ℕ, true, false, cond, List, ◌∷◌, Option, Some, String, Global, string_bytes, ap, sym, ◌∙◌}
use Rattle.std.specs.List.{list_any}
use Rattle.std.specs.Str.{bytes_eq}
use Rattle.toml.proofs.Views.{Entry}
use Rattle.toml.specs.View.{members_view}
use Rattle.toml.specs.declared.value.Value.{Value}
use Rattle.scenario_toml.specs.Values.{first_unknown}

-- the next key is the first one where it isn't among the names
pub unknown-here : (names : List (List ℕ)) (left rest : List Entry) (k : String Global) (v : Value) (key : List ℕ) (whole : Option (List ℕ)) → left ≡ (k, v) ∷ rest
    → key ≡ string_bytes k → list_any (λ name. bytes_eq name key) names ≡ false → first_unknown names (members_view left) ≡ whole → Some key ≡ whole
unknown-here names left rest k v key whole at is none so_far =
    let here : list_any (λ name. bytes_eq name (string_bytes k)) names ≡ false = sym (ap (λ b. list_any (λ name. bytes_eq name b) names) is) ∙ none in
    let first : first_unknown names (members_view ((k, v) ∷ rest)) ≡ Some (string_bytes k) =
    ap (λ b. cond b (first_unknown names (members_view rest)) (Some (string_bytes k))) here in
    ap Some is ∙ sym first ∙ sym (ap (λ (l : List Entry). first_unknown names (members_view l)) at) ∙ so_far

-- else it is looked for behind it
pub unknown-behind : (names : List (List ℕ)) (left rest : List Entry) (k : String Global) (v : Value) (key : List ℕ) (whole : Option (List ℕ)) → left ≡ (k, v) ∷ rest
    → key ≡ string_bytes k → list_any (λ name. bytes_eq name key) names ≡ true → first_unknown names (members_view left) ≡ whole → first_unknown names (members_view rest) ≡ whole
unknown-behind names left rest k v key whole at is some so_far =
    let here : list_any (λ name. bytes_eq name (string_bytes k)) names ≡ true = sym (ap (λ b. list_any (λ name. bytes_eq name b) names) is) ∙ some in
    let first : first_unknown names (members_view ((k, v) ∷ rest)) ≡ first_unknown names (members_view rest) =
    ap (λ b. cond b (first_unknown names (members_view rest)) (Some (string_bytes k))) here in
    sym first ∙ sym (ap (λ (l : List Entry). first_unknown names (members_view l)) at) ∙ so_far
