-- The answer of the job `check` to the bytes of its file.
use Rattle.std.specs.Prelude.{◌≡◌, ℕ, List, None, Ok, Err}
use Rattle.fault_text.specs.declared.fault.Fault.TheVariants.{Replay}
use Rattle.replay_text.specs.Reading.{saved_of}
use Rattle.replay_text.specs.SavedRun.{SavedRun}
use Rattle.replay_text.specs.Summary.{summary_text}
use Rattle.surw_cli.specs.Answer.{Answer, Report, Refusal}
use Rattle.surw_cli.specs.declared.status.Status.TheVariants.{Done}

-- the bytes are a saved run, and it is told what they save
pub record IsCheckReport (bytes text : List ℕ) : Type 0 where
  pub saved : SavedRun
  pub form : saved_of bytes ≡ Ok saved
  pub printed : text ≡ summary_text saved

-- no two cases hold of one file
abbrev pub check_answer : List ℕ → Answer → Type 0
check_answer bytes (Report Done text None) = IsCheckReport bytes text
check_answer bytes (Refusal (Replay fault)) = saved_of bytes ≡ Err fault
check_answer bytes _ = ⊥
