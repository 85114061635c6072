-- What the first pick of PCT draws.
use Rattle.std.specs.Prelude.{ℕ, List, drop, replicate, take, Result, Ok, Err}
use Rattle.draw_split.specs.Named.{named_order}
use Rattle.seed_draws.specs.declared.draw_fault.DrawFault.{DrawFault}
use Rattle.seed_draws.specs.declared.draws.Draws.{Ghosts}
use Rattle.seed_draws.specs.Answers.{answers}
use Rattle.walk_rules.specs.Pct.{found_by, pct_asked}
use Rattle.walk_rules.specs.Ranked.{Ranked}
use Rattle.walk_rules.specs.State.{Memory, memory_of}

-- the order and the change points that the draws of the first pick name, or their refusal
abbrev pub draws_found : ℕ → Result (List ℕ) DrawFault → Result (List ℕ × List ℕ) DrawFault
draws_found threads (Ok draws) = Ok (named_order (replicate threads 1) (take threads draws), drop threads draws)
draws_found threads (Err fault) = Err fault

-- what is kept at a pick, by the draws of a source, or its refusal
abbrev pub found_from : {S : Type 0} → Ghosts S → ℕ → ℕ → List ℕ → Ranked → S → Result Memory DrawFault
found_from draws depth step counts ranks source =
    found_by depth step counts (memory_of ranks) (answers draws source (pct_asked depth step counts))
