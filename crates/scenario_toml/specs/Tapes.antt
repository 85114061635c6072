-- The table `tapes`.
use Rattle.std.specs.Prelude.{List, ℕ, [], ◌∷◌, ◌++◌, pos, Option, None, Some, Result, Ok, codes}
use Rattle.surw_base.specs.declared.limits.TheConstants.{STEPS}
use Rattle.toml.specs.Data.{Data, Members, get_member}
use Rattle.scenario_toml.specs.declared.fault.ScenarioFault.{ScenarioFault}
use Rattle.scenario_toml.specs.Faults.{and_then}
use Rattle.scenario_toml.specs.Keys.{greatest}
use Rattle.scenario_toml.specs.Values.{list_or, number_item, only}

-- the entries of the tape of the selected draws, and of the other one
pub record Entries : Type 0 where
  pub selected : List ℕ
  pub other : List ℕ

-- an entry
abbrev pub entry_item : List ℕ → ℕ → Data → Result ℕ ScenarioFault
entry_item = number_item (pos greatest)

-- the entries of the tape of this name, and none where it is absent
abbrev pub entries_in : List ℕ → Members → Result (List ℕ) ScenarioFault
entries_in name table = list_or [] entry_item (codes "tapes." ++ name) STEPS (get_member name table)

-- the keys in their order
unfoldable pub tapes_in : Members → Result Entries ScenarioFault
tapes_in table =
    and_then (only (codes "tapes.") (codes "selected" ∷ codes "other" ∷ []) table) (λ _.
    and_then (entries_in (codes "selected") table) (λ selected.
    and_then (entries_in (codes "other") table) (λ other.
    Ok (record { selected = selected; other = other }))))

-- no tapes where there is no table
abbrev pub tapes : Option Members → Result (Option Entries) ScenarioFault
tapes None = Ok None
tapes (Some table) = and_then (tapes_in table) (λ entries. Ok (Some entries))
