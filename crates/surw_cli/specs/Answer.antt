-- Answers to a command line.
use Rattle.std.specs.Prelude.{ℕ, List, Option}
use Rattle.fault_text.specs.declared.fault.Fault.{Fault}
use Rattle.surw_io.specs.Made.{CreatedFile}
use Rattle.surw_cli.specs.declared.status.Status.{Status}

-- a report with the status that it ends with, and the file that is saved, if one is; or a refusal
pub data Answer : Type 0 where
  Report : Status → List ℕ → Option CreatedFile → Answer
  Refusal : Fault → Answer
