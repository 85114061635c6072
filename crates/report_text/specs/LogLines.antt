-- The line of the slots of a log device.
use Rattle.std.specs.Prelude.{ℕ, List, ◌∷◌, ◌++◌, Option, None, Some, codes}
use Rattle.std.specs.List.{flat_map}
use Rattle.std.specs.Fmt.{decimal}
use Rattle.surw_base.specs.Lines.{line}

-- the value in a slot, or `-` where it is empty
abbrev pub slot_text : Option ℕ → List ℕ
slot_text None = codes "-"
slot_text (Some value) = decimal value

-- what each reserved slot holds
unfoldable pub slots_line : List (Option ℕ) → List ℕ
slots_line reserved = line (codes "slots" ++ flat_map (λ slot. 32 ∷ slot_text slot) reserved)
