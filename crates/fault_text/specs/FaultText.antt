-- What a refused command line prints.
use Rattle.std.specs.Prelude.{ℕ, List, [], ◌∷◌, ◌++◌, codes}
use Rattle.std.specs.List.{flat_map}
use Rattle.std.specs.Fmt.{decimal, signed_decimal}
use Rattle.hex.specs.Hex.{encode_lower}
use Rattle.replay_text.specs.declared.replay_fault.ReplayFault.{ReplayFault}
use Rattle.replay_text.specs.declared.replay_fault.ReplayFault.TheVariants as replay
use Rattle.surw_base.specs.Lines.{line}
use Rattle.scenario_toml.specs.declared.fault.ScenarioFault.{ScenarioFault}
use Rattle.scenario_toml.specs.declared.fault.ScenarioFault.TheVariants.{NotToml, Missing, WrongKind, Unknown, Range, Name, OutOfMemory}
use Rattle.fault_text.specs.declared.fault.Fault.{Fault}
use Rattle.fault_text.specs.declared.fault.Fault.TheVariants.{Words, Lines, Read, Length, Large, Miscount, Offsets, Offset, TooLong, Scenario, ProfileStepLimit, ProfileDeadlock, Replay, OtherScenario}

-- the line of a word and then texts, each behind a space (32)
abbrev pub fault_line : List ℕ → List (List ℕ) → List ℕ
fault_line word texts = line (word ++ flat_map (λ text. 32 ∷ text) texts)

-- the line of a scenario's fault; want of memory is no fault of a file, and has no line
abbrev pub scenario_fault_text : ScenarioFault → List ℕ
scenario_fault_text NotToml = fault_line (codes "fault scenario not_toml") []
scenario_fault_text (Missing key) = fault_line (codes "fault scenario missing") (key ∷ [])
scenario_fault_text (WrongKind key) = fault_line (codes "fault scenario wrong_kind") (key ∷ [])
scenario_fault_text (Unknown key) = fault_line (codes "fault scenario unknown") (key ∷ [])
scenario_fault_text (Range key kept least most) =
    fault_line (codes "fault scenario range") (key ∷ signed_decimal kept ∷ signed_decimal least ∷ signed_decimal most ∷ [])
scenario_fault_text (Name key text) = fault_line (codes "fault scenario name") (key ∷ text ∷ [])
scenario_fault_text OutOfMemory = []

-- the line of a saved run's fault; want of memory has no line here either
abbrev pub replay_fault_text : ReplayFault → List ℕ
replay_fault_text replay.Header = fault_line (codes "fault replay header") []
replay_fault_text (replay.Line number) = fault_line (codes "fault replay line") (decimal number ∷ [])
replay_fault_text (replay.TooMany number) = fault_line (codes "fault replay too_many") (decimal number ∷ [])
replay_fault_text replay.NoEnd = fault_line (codes "fault replay no_end") []
replay_fault_text replay.OutOfMemory = []

-- the fault's line; that of words is followed by the line of use
abbrev pub fault_text : Fault → List ℕ
fault_text Words =
    fault_line (codes "fault words") []
    ++ fault_line (codes "usage: surw JOB NAME [SAVED] [--strategy S] [--seed N] [--depth N] [--save PATH]") []
fault_text (Lines number) = fault_line (codes "fault lines") (decimal number ∷ [])
fault_text Read = fault_line (codes "fault read") []
fault_text (Length kept needed) = fault_line (codes "fault length") (decimal kept ∷ decimal needed ∷ [])
fault_text (Large place kept below) = fault_line (codes "fault large") (decimal place ∷ decimal kept ∷ decimal below ∷ [])
fault_text (Miscount thread counted seen) = fault_line (codes "fault miscount") (decimal thread ∷ decimal counted ∷ decimal seen ∷ [])
fault_text (Offsets thread counted seen) = fault_line (codes "fault offsets") (decimal thread ∷ decimal counted ∷ decimal seen ∷ [])
fault_text (Offset thread place kept below) =
    fault_line (codes "fault offset") (decimal thread ∷ decimal place ∷ decimal kept ∷ decimal below ∷ [])
fault_text (TooLong limit) = fault_line (codes "fault too_long") (decimal limit ∷ [])
fault_text (Scenario fault) = scenario_fault_text fault
fault_text ProfileStepLimit = fault_line (codes "fault profile step_limit") []
fault_text (ProfileDeadlock step) = fault_line (codes "fault profile deadlock") (decimal step ∷ [])
fault_text (Replay fault) = replay_fault_text fault
fault_text (OtherScenario kept needed) =
    fault_line (codes "fault replay other_scenario") (encode_lower kept ∷ encode_lower needed ∷ [])
