-- The whole lines of a text.
use Rattle.std.specs.Prelude.{ℕ, ◌==◌, List, [], ◌∷◌, length, drop, if◌then◌else◌}
use Rattle.std.specs.List.{flat_map}
use Rattle.surw_base.specs.Lines.{line}

-- the lines with a byte more at the front of the first, where there is one
abbrev pub with_byte : ℕ → List (List ℕ) → List (List ℕ)
with_byte byte [] = []
with_byte byte (text ∷ texts) = (byte ∷ text) ∷ texts

-- the lines that end with a line feed (10), each without it
unfoldable pub whole_lines : List ℕ → List (List ℕ)
whole_lines [] = []
whole_lines (byte ∷ bytes) = if byte == 10 then [] ∷ whole_lines bytes else with_byte byte (whole_lines bytes)

-- what is left behind the last line feed
unfoldable pub unfinished : List ℕ → List ℕ
unfinished text = drop (length (flat_map line (whole_lines text))) text
