-- What is written behind the word of a line.
use Rattle.std.specs.Prelude.{List, ℕ, ◌∷◌, ◌++◌}
use Rattle.std.specs.List.{flat_map}
use Rattle.std.specs.Fmt.{decimal, signed_decimal}
use Rattle.surw_base.specs.Lines.{line}
use Rattle.fault_text.specs.declared.item.Item.{Item}
use Rattle.fault_text.specs.declared.item.Item.TheVariants.{Text, Number, Signed}

-- a text as it is, and a number in decimal
abbrev pub item_text : Item → List ℕ
item_text (Text text) = text.now
item_text (Number number) = decimal number
item_text (Signed number) = signed_decimal number

-- the line of a word and then items, each behind a space (32)
abbrev pub item_line : List ℕ → List Item → List ℕ
item_line word items = line (word ++ flat_map (λ item. 32 ∷ item_text item) items)
