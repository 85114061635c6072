-- The tokens of a text: its parts between spaces.
use Rattle.std.specs.Prelude.{ℕ, ◌==◌, List, [], ◌∷◌, slice_index_or, if◌then◌else◌}
use Rattle.std.specs.Str.Parse.{digits_value}

-- the tokens with a byte more at the front of the first
abbrev pub with_first_byte : ℕ → List (List ℕ) → List (List ℕ)
with_first_byte byte [] = (byte ∷ []) ∷ []
with_first_byte byte (token ∷ tokens) = (byte ∷ token) ∷ tokens

-- the parts of a text between its spaces (32)
unfoldable pub tokens : List ℕ → List (List ℕ)
tokens [] = [] ∷ []
tokens (byte ∷ bytes) = if byte == 32 then [] ∷ tokens bytes else with_first_byte byte (tokens bytes)

-- the number at a place of such parts, where the part there is one
abbrev pub number_at : List (List ℕ) → ℕ → ℕ
number_at tokens place = digits_value 10 (slice_index_or tokens place [])
