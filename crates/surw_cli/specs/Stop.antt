-- How a refusal of a part stops a job, and what holds of a job that stopped.
use Rattle.std.specs.Prelude.{◌≡◌, ◌⊎◌, ℕ, Option, Some}
use Rattle.command_words.specs.declared.words.WordFault.{WordFault}
use Rattle.command_words.specs.declared.words.WordFault.TheVariants as words
use Rattle.draw_split.specs.declared.joining.JoinFault.{JoinFault}
use Rattle.draw_split.specs.declared.joining.JoinFault.TheVariants as join
use Rattle.draw_split.specs.declared.naming.SplitFault.{SplitFault}
use Rattle.draw_split.specs.declared.naming.SplitFault.TheVariants as split
use Rattle.fault_text.specs.declared.fault.Fault.{Fault}
use Rattle.fault_text.specs.declared.fault.Fault.TheVariants.{Words, Lines, Read, Length, Large, Miscount, Offsets, Offset, TooLong, Scenario, ProfileStepLimit, ProfileDeadlock, Replay}
use Rattle.order_text.specs.declared.file_fault.FileFault.{FileFault}
use Rattle.order_text.specs.declared.file_fault.FileFault.TheVariants as file
use Rattle.pure_run.specs.declared.profiling.ProfileFault.{ProfileFault}
use Rattle.pure_run.specs.declared.profiling.ProfileFault.TheVariants as profile
use Rattle.replay_text.specs.declared.replay_fault.ReplayFault.{ReplayFault}
use Rattle.replay_text.specs.declared.replay_fault.ReplayFault.TheVariants as replay
use Rattle.scenario_toml.specs.declared.fault.ScenarioFault.{ScenarioFault}
use Rattle.scenario_toml.specs.declared.fault.ScenarioFault.TheVariants as scenario
use Rattle.surw_io.specs.Cause.{Rose}
use Rattle.surw_io.specs.Content.{Entry, Missing}
use Rattle.surw_io.specs.Fetch.{IsLongerThan}
use Rattle.surw_io.specs.declared.whole_file.FetchFault.{FetchFault}
use Rattle.surw_io.specs.declared.whole_file.FetchFault.TheVariants as fetch
use Rattle.surw_cli.specs.Answer.{Answer, Refusal}
use Rattle.surw_cli.specs.declared.stop.Stop.{Stop}
use Rattle.surw_cli.specs.declared.stop.Stop.TheVariants.{Refused, OutOfMemory}

-- of a file that may have so many bytes
abbrev pub stop_of_fetch : ℕ → FetchFault → Stop
stop_of_fetch limit fetch.Failed = Refused Read
stop_of_fetch limit (fetch.TooLong taken) = Refused (TooLong limit)
stop_of_fetch limit fetch.OutOfMemory = OutOfMemory

abbrev pub stop_of_words : WordFault → Stop
stop_of_words words.Form = Refused Words
stop_of_words words.OutOfMemory = OutOfMemory

abbrev pub stop_of_file : FileFault → Stop
stop_of_file (file.Lines number) = Refused (Lines number)
stop_of_file file.OutOfMemory = OutOfMemory

abbrev pub stop_of_scenario : ScenarioFault → Stop
stop_of_scenario scenario.OutOfMemory = OutOfMemory
stop_of_scenario fault = Refused (Scenario fault)

abbrev pub stop_of_profile : ProfileFault → Stop
stop_of_profile profile.StepLimit = Refused ProfileStepLimit
stop_of_profile (profile.Deadlock step) = Refused (ProfileDeadlock step)
stop_of_profile profile.OutOfMemory = OutOfMemory

abbrev pub stop_of_replay : ReplayFault → Stop
stop_of_replay replay.OutOfMemory = OutOfMemory
stop_of_replay fault = Refused (Replay fault)

abbrev pub stop_of_split : SplitFault → Stop
stop_of_split (split.Length kept needed) = Refused (Length kept needed)
stop_of_split (split.Large place kept below) = Refused (Large place kept below)
stop_of_split split.OutOfMemory = OutOfMemory

abbrev pub stop_of_join : JoinFault → Stop
stop_of_join (join.Miscount thread counted seen) = Refused (Miscount thread counted seen)
stop_of_join (join.Offsets thread counted seen) = Refused (Offsets thread counted seen)
stop_of_join (join.Offset thread place kept below) = Refused (Offset thread place kept below)
stop_of_join join.OutOfMemory = OutOfMemory

-- it was stopped by such a fault, or memory was refused
abbrev pub IsStopBy : (Fault → Type 0) → Stop → Type 0
IsStopBy IsCause (Refused fault) = IsCause fault
IsStopBy IsCause OutOfMemory = Unit {0}

-- a job stopped so, where this is said of its answers
abbrev pub IsStopOf : (Answer → Type 0) → Stop → Type 0
IsStopOf IsMade stop = IsStopBy (λ fault. IsMade (Refusal fault)) stop

-- a job stopped so, with the shelf's count of faults of opens and reads going from `before` to `now`: it was refused for
-- what is said of its answers, or for a fault of the shelf, or memory was refused
abbrev pub IsStopAt : (Answer → Type 0) → ℕ → ℕ → Stop → Type 0
IsStopAt IsMade before now (Refused Read) = Rose before now ⊎ ((now ≡ before) × IsMade (Refusal Read))
IsStopAt IsMade before now (Refused fault) = (now ≡ before) × IsMade (Refusal fault)
IsStopAt IsMade before now OutOfMemory = now ≡ before

-- a file that is coming was not fetched, for this cause
abbrev pub IsUnfetched : ℕ → Option Entry → ℕ → ℕ → Stop → Type 0
IsUnfetched limit coming before now (Refused Read) = Rose before now ⊎ ((now ≡ before) × (coming ≡ Some Missing))
IsUnfetched limit coming before now (Refused (TooLong most)) = (now ≡ before) × (most ≡ limit) × IsLongerThan limit coming
IsUnfetched limit coming before now (Refused fault) = ⊥
IsUnfetched limit coming before now OutOfMemory = now ≡ before
