-- The line that a text names: of the lines that its tokens can make, the one whose text it is.
use Rattle.std.specs.Prelude.{ℕ, ◌-◌, ◌^◌, ◌==◌, ◌&&◌, ltb, leb, Bool, true, false, List, [], ◌∷◌, ◌++◌, map, drop, Option, None, Some, unwrap_or, slice_index, if◌then◌else◌}
use Rattle.std.specs.Char.{is_ascii_digit}
use Rattle.std.specs.List.{find, list_all}
use Rattle.std.specs.Str.{bytes_eq}
use Rattle.std.specs.Str.Parse.{digits_value}
use Rattle.surw_base.specs.declared.limits.TheConstants.{LINES}
use Rattle.surw_base.specs.Tokens.{tokens}
use Rattle.routine_kit.specs.declared.line.Line.{Line}
use Rattle.routine_kit.specs.declared.line.Line.TheVariants.{Act, Plus, Skip}
use Rattle.routine_kit.specs.declared.operand.Operand.{Operand}
use Rattle.routine_kit.specs.declared.operand.Operand.TheVariants.{Num, Reg}
use Rattle.routine_kit.specs.declared.token.Token.{Token}
use Rattle.routine_kit.specs.declared.token.Token.TheVariants.{Value, If, Equal, Unequal, Arrow}
use Rattle.routine_kit.specs.LineText.{line_text, line_tokens, shapes, token_text}

-- the sign that a part of a text writes
abbrev pub sign_of_part : List ℕ → Token
sign_of_part part = unwrap_or (find (λ sign. bytes_eq (token_text sign) part) (Equal ∷ Unequal ∷ Arrow ∷ [])) If

-- the token that a part writes: a register where it begins with `r`, a number where with a digit, else a sign
abbrev pub token_of : List ℕ → Token
token_of part =
    if slice_index part 0 == 114 then Value (Reg (slice_index part 1 - 48))
    else if is_ascii_digit (slice_index part 0) then Value (Num (digits_value 10 part))
    else sign_of_part part

-- the values before the arrow
abbrev pub operands : List Token → List Operand
operands (Value operand ∷ rest) = operand ∷ operands rest
operands _ = []

-- the register behind the arrow
abbrev pub target : List Token → Option ℕ
target [] = None
target (Arrow ∷ Value (Reg reg) ∷ []) = Some reg
target (_ ∷ rest) = target rest

-- the lines that announce nothing and have these tokens
abbrev pub silent_lines : List Token → List Line
silent_lines (Value (Reg reg) ∷ Value by ∷ []) = Plus reg by ∷ []
silent_lines (Value (Num over) ∷ If ∷ Value (Reg reg) ∷ Equal ∷ Value with ∷ []) = Skip over reg true with ∷ []
silent_lines (Value (Num over) ∷ If ∷ Value (Reg reg) ∷ Unequal ∷ Value with ∷ []) = Skip over reg false with ∷ []
silent_lines _ = []

-- the lines that tokens can make, of any verb
abbrev pub lines : List Token → List Line
lines behind = map (λ shape. Act shape (target behind)) (shapes (operands behind)) ++ silent_lines behind

-- a number is below 2 ^ 64, and a register one of the four
abbrev pub is_token : Token → Bool
is_token (Value (Num n)) = ltb n (2 ^ 64)
is_token (Value (Reg r)) = ltb r 4
is_token _ = true

-- a `skip` passes over at most `LINES` lines
abbrev pub is_short : Line → Bool
is_short (Skip over reg equal with) = leb over LINES
is_short _ = true

-- whether this is the text of a line
abbrev pub is_line_text : List ℕ → Line → Bool
is_line_text text line = bytes_eq (line_text line) text && (list_all is_token (line_tokens line) && is_short line)

-- the line of which this is the text: its tokens are those behind the verb
unfoldable pub line_of : List ℕ → Option Line
line_of text = find (is_line_text text) (lines (map token_of (drop 1 (tokens text))))
