-- What is run of a scenario's plan.
use Rattle.routine_kit.specs.declared.any_routine.AnyRoutine.{AnyRoutine}
use Rattle.routine_kit.specs.declared.routine.Routine.{Ghosts}
use Rattle.routine_kit.specs.AnyRoutine.{any_announced, any_after}
use Rattle.run_rules.specs.declared.plan.Plan.{Plan}
use Rattle.run_rules.specs.Plan.{script_of}
use Rattle.run_rules.specs.Setup.{Script}
use Rattle.seed_draws.specs.declared.any_draws.AnyDraws.{AnyDraws}
use Rattle.seed_draws.specs.AnyDraws.{any_draws}

-- how a routine of any kind goes on
abbrev pub any_routine : Ghosts AnyRoutine
any_routine = record { announced = any_announced; after_reply = any_after }

-- a plan of a scenario, by its setup and by what its routines announce
abbrev pub script : Plan AnyRoutine AnyDraws AnyDraws → Script
script plan = script_of any_routine any_draws any_draws plan
