-- The lines of a routine of steps, and the events that their shapes stand for.
use Rattle.std.specs.Prelude.{ℕ, ◌<◌, ◌≤◌, List, [], ◌∷◌, length, Option, None, Some, All, slice_index}
use Rattle.surw_base.specs.declared.limits.TheConstants.{LINES}
use Rattle.event_class.specs.declared.event.Event.{Event}
use Rattle.routine_kit.specs.declared.line.Line.{Line}
use Rattle.routine_kit.specs.declared.line.Line.TheVariants.{Act, Plus, Skip}
use Rattle.routine_kit.specs.declared.operand.Operand.{Operand}
use Rattle.routine_kit.specs.declared.operand.Operand.TheVariants.{Num, Reg}
use Rattle.routine_kit.specs.declared.shape.Shape.{Shape}
use Rattle.routine_kit.specs.declared.shape.Shape.TheVariants.{Acquire, Release, Load, Store, Add, SwapIf, Find, Claim, Fill, Read, Write, Oldest, Stamp, Flush, Reserve, Put, Mark, Durable, Check}

-- the value of an operand
abbrev pub value_of : List ℕ → Operand → ℕ
value_of registers (Num n) = n
value_of registers (Reg r) = slice_index registers r

-- the operands of a shape, in the order of the text
abbrev pub operands_of : Shape → List Operand
operands_of (Acquire l) = l ∷ []
operands_of (Release l) = l ∷ []
operands_of (Load c) = c ∷ []
operands_of (Store c v) = c ∷ v ∷ []
operands_of (Add c v) = c ∷ v ∷ []
operands_of (SwapIf c a b) = c ∷ a ∷ b ∷ []
operands_of (Find p) = p ∷ []
operands_of (Claim p) = p ∷ []
operands_of (Fill f p) = f ∷ p ∷ []
operands_of (Read f) = f ∷ []
operands_of (Write f v n) = f ∷ v ∷ n ∷ []
operands_of Oldest = []
operands_of (Stamp f) = f ∷ []
operands_of (Flush f) = f ∷ []
operands_of Reserve = []
operands_of (Put s v) = s ∷ v ∷ []
operands_of (Mark n) = n ∷ []
operands_of Durable = []
operands_of (Check a b) = a ∷ b ∷ []

-- the event of a shape, each operand replaced by its value
abbrev pub event_of : List ℕ → Shape → Event
event_of rs (Acquire l) = Event.Acquire (value_of rs l)
event_of rs (Release l) = Event.Release (value_of rs l)
event_of rs (Load c) = Event.Load (value_of rs c)
event_of rs (Store c v) = Event.Store (value_of rs c) (value_of rs v)
event_of rs (Add c v) = Event.Add (value_of rs c) (value_of rs v)
event_of rs (SwapIf c a b) = Event.SwapIf (value_of rs c) (value_of rs a) (value_of rs b)
event_of rs (Find p) = Event.Find (value_of rs p)
event_of rs (Claim p) = Event.Claim (value_of rs p)
event_of rs (Fill f p) = Event.Fill (value_of rs f) (value_of rs p)
event_of rs (Read f) = Event.Read (value_of rs f)
event_of rs (Write f v n) = Event.Write (value_of rs f) (value_of rs v) (value_of rs n)
event_of rs Oldest = Event.Oldest
event_of rs (Stamp f) = Event.Stamp (value_of rs f)
event_of rs (Flush f) = Event.Flush (value_of rs f)
event_of rs Reserve = Event.Reserve
event_of rs (Put s v) = Event.Put (value_of rs s) (value_of rs v)
event_of rs (Mark n) = Event.Mark (value_of rs n)
event_of rs Durable = Event.Durable
event_of rs (Check a b) = Event.Check (value_of rs a) (value_of rs b)

-- a register is one of the four
abbrev pub IsOperand : Operand → Type 0
IsOperand (Num n) = Unit {0}
IsOperand (Reg r) = r < 4

-- a register is one of the four, where one is named
abbrev pub IsTarget : Option ℕ → Type 0
IsTarget None = Unit {0}
IsTarget (Some r) = r < 4

-- each register in a line is one of the four, and it passes over at most `LINES` lines
abbrev pub IsLine : Line → Type 0
IsLine (Act shape into) = All IsOperand (operands_of shape) × IsTarget into
IsLine (Plus reg by) = (reg < 4) × IsOperand by
IsLine (Skip over reg equal with) = (over ≤ LINES) × (reg < 4) × IsOperand with

-- at most `LINES` lines
pub record AreLines (lines : List Line) : Type 0 where
  pub few : length lines ≤ LINES
  pub each : All IsLine lines
