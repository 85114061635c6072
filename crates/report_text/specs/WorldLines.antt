-- The line of the locks of a world.
use Rattle.std.specs.Prelude.{ℕ, List, ◌∷◌, ◌++◌, Option, None, Some, codes}
use Rattle.std.specs.List.{flat_map}
use Rattle.std.specs.Fmt.{decimal}
use Rattle.surw_base.specs.Lines.{line}

-- the thread that holds a lock, or `-` where it is free
abbrev pub holder_text : Option ℕ → List ℕ
holder_text None = codes "-"
holder_text (Some thread) = decimal thread

-- the holder of each lock
unfoldable pub locks_line : List (Option ℕ) → List ℕ
locks_line locks = line (codes "locks" ++ flat_map (λ holder. 32 ∷ holder_text holder) locks)
