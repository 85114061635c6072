-- The text of a line: a verb, and tokens behind it.
use Rattle.std.specs.Prelude.{◌≡◌, ℕ, ◌+◌, ◌^◌, ◌<◌, Bool, true, false, List, [], ◌∷◌, ◌++◌, map, Option, None, Some, All, codes}
use Rattle.std.specs.List.{flat_map}
use Rattle.std.specs.Fmt.{decimal}
use Rattle.event_class.specs.Event.{verb_of}
use Rattle.routine_kit.specs.declared.line.Line.{Line}
use Rattle.routine_kit.specs.declared.line.Line.TheVariants.{Act, Plus, Skip}
use Rattle.routine_kit.specs.declared.operand.Operand.TheVariants.{Num, Reg}
use Rattle.routine_kit.specs.declared.operand.Operand.{Operand}
use Rattle.routine_kit.specs.declared.shape.Shape.{Shape}
use Rattle.routine_kit.specs.declared.shape.Shape.TheVariants.{Oldest, Reserve, Durable, Acquire, Release, Load, Store, Add, SwapIf, Find, Claim, Fill, Read, Write, Stamp, Flush, Put, Mark, Check}
use Rattle.routine_kit.specs.declared.token.Token.{Token}
use Rattle.routine_kit.specs.declared.token.Token.TheVariants.{Value, If, Equal, Unequal, Arrow}
use Rattle.routine_kit.specs.Line.{operands_of, event_of, IsLine}

-- a number in decimal digits, a register as `r` and its digit, or one of four signs
abbrev pub token_text : Token → List ℕ
token_text (Value (Num n)) = decimal n
token_text (Value (Reg r)) = 114 ∷ (48 + r) ∷ []
token_text If = codes "if"
token_text Equal = codes "="
token_text Unequal = codes "!="
token_text Arrow = codes "->"

-- tokens, each behind a space
abbrev pub tokens_text : List Token → List ℕ
tokens_text tokens = flat_map (λ token. 32 ∷ token_text token) tokens

-- a number is below 2 ^ 64, and a register one of the four
abbrev pub IsToken : Token → Type 0
IsToken (Value (Num n)) = n < 2 ^ 64
IsToken (Value (Reg r)) = r < 4
IsToken _ = Unit {0}

-- the verb of a shape is that of its event
abbrev pub shape_verb : Shape → List ℕ
shape_verb shape = verb_of (event_of [] shape)

-- the verb of a line
abbrev pub line_verb : Line → List ℕ
line_verb (Act shape into) = shape_verb shape
line_verb (Plus reg by) = codes "plus"
line_verb (Skip over reg equal with) = codes "skip"

-- where the reply goes
abbrev pub into_tokens : Option ℕ → List Token
into_tokens None = []
into_tokens (Some reg) = Arrow ∷ Value (Reg reg) ∷ []

-- the sign of a comparison
abbrev pub sign_of : Bool → Token
sign_of true = Equal
sign_of false = Unequal

-- the tokens behind the verb
abbrev pub line_tokens : Line → List Token
line_tokens (Act shape into) = map Value (operands_of shape) ++ into_tokens into
line_tokens (Plus reg by) = Value (Reg reg) ∷ Value by ∷ []
line_tokens (Skip over reg equal with) = Value (Num over) ∷ If ∷ Value (Reg reg) ∷ sign_of equal ∷ Value with ∷ []

-- the text of a line
abbrev pub line_text : Line → List ℕ
line_text line = line_verb line ++ tokens_text (line_tokens line)

-- the bytes are the text of the line, whose numbers are below 2 ^ 64
pub record IsLineText (bytes : List ℕ) (line : Line) : Type 0 where
  pub text : bytes ≡ line_text line
  pub below : All IsToken (line_tokens line)
  pub fits : IsLine line

-- the shapes of these operands
abbrev pub shapes : List Operand → List Shape
shapes [] = Oldest ∷ Reserve ∷ Durable ∷ []
shapes (x ∷ []) = Acquire x ∷ Release x ∷ Load x ∷ Find x ∷ Claim x ∷ Read x ∷ Stamp x ∷ Flush x ∷ Mark x ∷ []
shapes (x ∷ y ∷ []) = Store x y ∷ Add x y ∷ Fill x y ∷ Put x y ∷ Check x y ∷ []
shapes (x ∷ y ∷ z ∷ []) = SwapIf x y z ∷ Write x y z ∷ []
shapes _ = []
