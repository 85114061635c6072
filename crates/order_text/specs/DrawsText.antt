-- What draws are printed as.
use Rattle.std.specs.Prelude.{ℕ, List, codes}
use Rattle.surw_base.specs.Lines.{list_line}

-- the draws
abbrev pub draws_text : List ℕ → List ℕ
draws_text draws = list_line (codes "draws") draws
