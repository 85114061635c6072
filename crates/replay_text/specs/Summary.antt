-- What is told of a saved run.
use Rattle.std.specs.Prelude.{ℕ, List, ◌++◌, codes, length}
use Rattle.std.specs.Fmt.{decimal}
use Rattle.surw_base.specs.Lines.{line}
use Rattle.replay_text.specs.SavedRun.{SavedRun}
use Rattle.replay_text.specs.SavedText.{name_text}

-- the version of its text, the name of its scenario and the number of its entries, each on a line
abbrev pub summary_text : SavedRun → List ℕ
summary_text saved =
    line (codes "replay 1") ++ line (name_text saved.name) ++ line (codes "entries " ++ decimal (length saved.entries))
