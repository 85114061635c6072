-- The core as the state of a turn table.
use Rattle.std.specs.Prelude.{ℕ, Option}
use Rattle.seed_draws.specs.declared.draws.Draws.{Ghosts}
use Rattle.pure_run.specs.Core.{CoreState, granted_of, setup_by}

-- the thread that a core grants the next step, by its own draws
abbrev pub next_thread : {S O : Type 0} → Ghosts S → Ghosts O → CoreState S O → Option ℕ
next_thread selected_draws other_draws core = granted_of (setup_by selected_draws other_draws core) core
