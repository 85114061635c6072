-- What is saved of a run.
use Rattle.std.specs.Prelude.{ℕ, List, Option, None, Some}
use Rattle.replay_text.specs.SavedRun.{SavedRun}
use Rattle.replay_text.specs.SavedText.{saved_text}
use Rattle.run_rules.specs.Replay.{entries_asked}
use Rattle.run_rules.specs.declared.entry.Entry.{Entry}
use Rattle.sha2.specs.Sha256.{sha256}
use Rattle.surw_io.specs.Made.{CreatedFile}

-- a scenario is named by the digest of its file's bytes; of its run the thread and the event of each entry are saved
abbrev pub saved_run : List ℕ → List Entry → SavedRun
saved_run bytes journal = record { name = sha256 bytes; entries = entries_asked journal }

-- where a name is given, the text of the run is saved under it
abbrev pub saved_file : Option (List ℕ) → List ℕ → List Entry → Option CreatedFile
saved_file None bytes journal = None
saved_file (Some name) bytes journal = Some (record { name = name; bytes = saved_text (saved_run bytes journal) })
