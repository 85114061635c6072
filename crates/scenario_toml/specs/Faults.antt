-- A value, or the first fault.
use Rattle.std.specs.Prelude.{◌≡◌, ◌⊎◌, Result, Ok, Err}
use Rattle.scenario_toml.specs.declared.fault.ScenarioFault.{ScenarioFault}
use Rattle.scenario_toml.specs.declared.fault.ScenarioFault.TheVariants.{OutOfMemory}

-- the first step's fault, or what comes next with its value
abbrev pub and_then : {A B : Type 0} → Result A ScenarioFault → (A → Result B ScenarioFault) → Result B ScenarioFault
and_then (Ok value) next = next value
and_then (Err fault) next = Err fault

-- the fault is want of memory, or the one that is due
abbrev pub IsFaultOf : {A : Type 0} → Result A ScenarioFault → ScenarioFault → Type 0
IsFaultOf due fault = (fault ≡ OutOfMemory) ⊎ (due ≡ Err fault)

-- the fault is want of memory, or this one
abbrev pub IsFault : ScenarioFault → ScenarioFault → Type 0
IsFault due fault = (fault ≡ OutOfMemory) ⊎ (fault ≡ due)
