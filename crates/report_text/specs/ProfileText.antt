-- The text of a profile.
use Rattle.std.specs.Prelude.{ℕ, List, ◌++◌, codes}
use Rattle.surw_base.specs.Lines.{list_line}

-- the number of selected events that each thread made, and of all its events
abbrev pub profile_text : List ℕ → List ℕ → List ℕ
profile_text selected all = list_line (codes "selected") selected ++ list_line (codes "all") all
