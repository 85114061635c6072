-- What a routine of steps announces.
use Rattle.std.specs.Prelude.{ℕ, ◌+◌, ◌==◌, not, Bool, if◌then◌else◌, List, [], ◌∷◌, length, drop, Option, None, Some, slice_index, slice_set, slice_get, ltb, zero, suc}
use Rattle.event_class.specs.declared.event.Event.{Event}
use Rattle.surw_base.specs.Number.{wrapping_sum}
use Rattle.routine_kit.specs.declared.line.Line.{Line}
use Rattle.routine_kit.specs.declared.line.Line.TheVariants.{Act, Plus, Skip}
use Rattle.routine_kit.specs.declared.operand.Operand.{Operand}
use Rattle.routine_kit.specs.declared.steps.Steps.{Steps}
use Rattle.routine_kit.specs.Line.{value_of, event_of}

-- the registers after a `plus`
abbrev pub added : List ℕ → ℕ → Operand → List ℕ
added registers reg by = slice_set registers reg (wrapping_sum (slice_index registers reg) (value_of registers by))

-- whether the comparison of a `skip` holds
abbrev pub holds : List ℕ → ℕ → Bool → Operand → Bool
holds registers reg equal with =
    let same = slice_index registers reg == value_of registers with in if equal then same else not same

-- a place in the list of lines, and the registers there
pub record Stand : Type 0 where
  pub place : ℕ
  pub registers : List ℕ

-- from a place, with the lines left there and how many of them are passed over: the next event line, or the
-- end of the list. It ends, since each line is reached once.
unfoldable pub settle : ℕ → List Line → ℕ → List ℕ → Stand
settle place [] over registers = record { place = place; registers = registers }
settle place (line ∷ rest) (suc over) registers = settle (place + 1) rest over registers
settle place (Act shape into ∷ rest) zero registers = record { place = place; registers = registers }
settle place (Plus reg by ∷ rest) zero registers = settle (place + 1) rest 0 (added registers reg by)
settle place (Skip over reg equal with ∷ rest) zero registers =
    settle (place + 1) rest (if holds registers reg equal with then over else 0) registers

-- the routine at its next event line: at the end of the list the times left fall by one, and the first line
-- is next. It ends, since the times fall, also where no line is an event's.
unfoldable pub settled : List Line → ℕ → ℕ → List ℕ → Steps
settled lines zero place registers = record { lines = lines; times = 0; place = 0; registers = registers }
settled lines (suc more) place registers =
    let next = settle place (drop place lines) 0 registers in
    if ltb next.place (length lines)
    then record { lines = lines; times = suc more; place = next.place; registers = next.registers }
    else settled lines more 0 next.registers

-- a routine at its beginning: its registers are 0
abbrev pub new_steps : List Line → ℕ → Steps
new_steps lines times = settled lines times 0 (0 ∷ 0 ∷ 0 ∷ 0 ∷ [])

-- the event of a line
abbrev pub event_at : Option Line → List ℕ → Option Event
event_at (Some (Act shape into)) registers = Some (event_of registers shape)
event_at _ registers = None

-- its next event, and none once no times are left
abbrev pub steps_announced : Steps → Option Event
steps_announced steps = if steps.times == 0 then None else event_at (slice_get steps.lines steps.place) steps.registers

-- the registers after the reply to a line's event
abbrev pub registers_told : Option Line → List ℕ → ℕ → List ℕ
registers_told (Some (Act shape (Some reg))) registers reply = slice_set registers reg reply
registers_told _ registers reply = registers

-- the routine after a reply
abbrev pub steps_after : Steps → ℕ → Steps
steps_after steps reply =
    settled steps.lines steps.times (steps.place + 1) (registers_told (slice_get steps.lines steps.place) steps.registers reply)
