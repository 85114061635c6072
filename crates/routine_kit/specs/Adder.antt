-- What an adder announces.
use Rattle.std.specs.Prelude.{ℕ, ◌-◌, ◌==◌, if◌then◌else◌, Option, None, Some}
use Rattle.event_class.specs.declared.event.Event.{Event}
use Rattle.event_class.specs.declared.event.Event.TheVariants.{Load, SwapIf}
use Rattle.surw_base.specs.Number.{wrapping_sum}
use Rattle.routine_kit.specs.declared.adder.Adder.{Adder}

-- an adder at its beginning
abbrev pub new_adder : ℕ → ℕ → Adder
new_adder cell tries = record { cell = cell; tries = tries; loaded = None }

-- one try: a load, then a swap of what it replied for one more
abbrev pub adder_try : ℕ → Option ℕ → Event
adder_try cell None = Load cell
adder_try cell (Some loaded) = SwapIf cell loaded (wrapping_sum loaded 1)

-- its next event, and none once no tries are left
abbrev pub adder_announced : Adder → Option Event
adder_announced adder = if adder.tries == 0 then None else Some (adder_try adder.cell adder.loaded)

-- the tries left after a swap: none where it replied what was loaded
abbrev pub tries_after : ℕ → ℕ → ℕ → ℕ
tries_after tries loaded reply = if reply == loaded then 0 else tries - 1

-- the adder after a reply, by whether it is the load's or the swap's
abbrev pub adder_told : ℕ → ℕ → Option ℕ → ℕ → Adder
adder_told cell tries None reply = record { cell = cell; tries = tries; loaded = Some reply }
adder_told cell tries (Some loaded) reply = record { cell = cell; tries = tries_after tries loaded reply; loaded = None }

-- the adder after a reply
abbrev pub adder_after : Adder → ℕ → Adder
adder_after adder reply = adder_told adder.cell adder.tries adder.loaded reply
