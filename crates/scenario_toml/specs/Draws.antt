-- The draws of a plan: from the tapes of the file, or from a seed.
use Rattle.std.specs.Prelude.{ℕ, List, Option, None, Some}
use Rattle.seed_draws.specs.declared.any_draws.AnyDraws.{AnyDraws}
use Rattle.seed_draws.specs.declared.any_draws.AnyDraws.TheVariants.{Seed, Strict, Loose}
use Rattle.seed_draws.specs.Seeded.{SeededState, seeded}
use Rattle.seed_draws.specs.Tape.{Tape}
use Rattle.scenario_toml.specs.declared.choice.Choice.{Choice}
use Rattle.scenario_toml.specs.declared.draws.TheConstants.{SELECTED_STREAM, OTHER_STREAM, PCT_STREAM}
use Rattle.scenario_toml.specs.declared.strategy.Strategy.{Strategy}
use Rattle.scenario_toml.specs.declared.strategy.Strategy.TheVariants.{Pct}
use Rattle.scenario_toml.specs.Chosen.{seed_by, strategy_by}
use Rattle.scenario_toml.specs.State.{ScenarioState}
use Rattle.scenario_toml.specs.Tapes.{Entries}

-- a tape of which nothing is taken
abbrev pub whole : List ℕ → Tape
whole entries = record { entries = entries; taken = 0 }

-- the tapes where no seed is chosen, and none where one is
abbrev pub unless_seeded : Option ℕ → Option Entries → Option Entries
unless_seeded None tapes = tapes
unless_seeded (Some seed) tapes = None

-- the tapes that a choice leaves to be drawn from
abbrev pub tapes_by : ScenarioState → Choice → Option Entries
tapes_by s choice = unless_seeded choice.seed s.tapes

-- the stream of the selected draws under a strategy
abbrev pub stream_by : Strategy → ℕ
stream_by Pct = PCT_STREAM
stream_by _ = SELECTED_STREAM

-- the tape of the selected draws refuses what it can't answer; where there are no tapes the seed's stream is drawn from
abbrev pub selected_from : Option Entries → SeededState → AnyDraws
selected_from None stream = Seed stream
selected_from (Some tapes) stream = Strict (whole tapes.selected)

-- the tape of the other draws never refuses
abbrev pub other_from : Option Entries → SeededState → AnyDraws
other_from None stream = Seed stream
other_from (Some tapes) stream = Loose (whole tapes.other)

-- the selected draws
abbrev pub selected_draws_of : ScenarioState → Choice → AnyDraws
selected_draws_of s choice = selected_from (tapes_by s choice) (seeded (seed_by s choice) (stream_by (strategy_by s choice)))

-- the other draws
abbrev pub other_draws_of : ScenarioState → Choice → AnyDraws
other_draws_of s choice = other_from (tapes_by s choice) (seeded (seed_by s choice) OTHER_STREAM)
