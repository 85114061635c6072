-- The lines of a text.
use Rattle.std.specs.Prelude.{◌==◌, ℕ, List, [], ◌∷◌, if◌then◌else◌}
use Rattle.surw_base.specs.Tokens.{with_first_byte}

-- the lines of a text: each ends with a line feed (10), which the last may lack
unfoldable pub lines_of : List ℕ → List (List ℕ)
lines_of [] = []
lines_of (byte ∷ bytes) = if byte == 10 then [] ∷ lines_of bytes else with_first_byte byte (lines_of bytes)
