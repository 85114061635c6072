-- How a scenario without a profile stops a job, and how many counts a profile has.
use Rattle.std.proofs.Common.{◌≡◌, ℕ, List, [], ◌∷◌, length, Ok, ap, ◌∙◌}
use Rattle.std.proofs.lemmas.List.FromFn.{length-map-range_with_len}
use Rattle.event_class.specs.declared.pickable.Pickable.{Pickable}
use Rattle.event_class.specs.declared.pickable.Pickable.TheVariants.{Every}
use Rattle.pure_run.specs.Profile.{IsProfileStop, counts_made}
use Rattle.pure_run.specs.declared.profiling.ProfileFault.{ProfileFault}
use Rattle.pure_run.specs.declared.profiling.ProfileFault.TheVariants.{StepLimit, Deadlock, OutOfMemory}
use Rattle.routine_kit.specs.declared.any_routine.AnyRoutine.{AnyRoutine}
use Rattle.run_rules.specs.EventsMade.{events_made}
use Rattle.run_rules.specs.Setup.{Setup}
use Rattle.run_rules.specs.declared.entry.Entry.{Entry}
use Rattle.run_rules.specs.declared.plan.Plan.{Plan}
use Rattle.scenario_toml.specs.Chosen.{seed_by}
use Rattle.scenario_toml.specs.Scenario.{scenario_of}
use Rattle.scenario_toml.specs.State.{ScenarioState}
use Rattle.scenario_toml.specs.declared.choice.Choice.{Choice}
use Rattle.scenario_toml.specs.declared.strategy.Strategy.{Strategy}
use Rattle.scenario_toml.specs.declared.strategy.Strategy.TheVariants.{Urw, Surw, Pct, Plain}
use Rattle.seed_draws.specs.declared.any_draws.AnyDraws.{AnyDraws}
use Rattle.surw_cli.specs.Counts.{IsUncounted, counted_by}
use Rattle.surw_cli.specs.PlanAnswer.{IsUnplanned}
use Rattle.surw_cli.specs.ProfileAnswer.{profile_answer}
use Rattle.surw_cli.specs.Profiled.{IsProfileOf, IsProfilePlan, IsUnprofiled}
use Rattle.surw_cli.specs.Script.{script}
use Rattle.surw_cli.specs.Stop.{IsStopBy, IsStopOf, stop_of_profile}

-- a profile that stops is the scenario's
pub unprofiled : (scenario : ScenarioState) (seed : ℕ) (plan : Plan AnyRoutine AnyDraws AnyDraws) (fault : ProfileFault) → IsProfilePlan scenario plan
    → IsProfileStop (script plan) seed fault → IsUnprofiled scenario seed fault
unprofiled scenario seed plan StepLimit planned stopped = record { plan = plan; planned = planned; stopped = stopped }
unprofiled scenario seed plan (Deadlock step) planned stopped = record { plan = plan; planned = planned; stopped = stopped }
unprofiled scenario seed plan OutOfMemory planned stopped = tt

-- it stops the job `profile`
pub profile-stop : (choice : Choice) (bytes : List ℕ) (scenario : ScenarioState) (fault : ProfileFault) → scenario_of bytes ≡ Ok scenario
    → IsUnprofiled scenario (seed_by scenario choice) fault
    → IsStopOf (profile_answer choice bytes) (stop_of_profile fault)
profile-stop choice bytes scenario StepLimit form stopped = record { scenario = scenario; form = form; stopped = stopped }
profile-stop choice bytes scenario (Deadlock step) form stopped = record { scenario = scenario; form = form; stopped = stopped }
profile-stop choice bytes scenario OutOfMemory form stopped = tt

-- and the job `plan`
pub plan-stop : (choice : Choice) (bytes : List ℕ) (scenario : ScenarioState) (fault : ProfileFault) → scenario_of bytes ≡ Ok scenario → IsUncounted scenario choice fault
    → IsStopBy (IsUnplanned choice bytes) (stop_of_profile fault)
plan-stop choice bytes scenario StepLimit form stopped = record { scenario = scenario; form = form; stopped = stopped }
plan-stop choice bytes scenario (Deadlock step) form stopped = record { scenario = scenario; form = form; stopped = stopped }
plan-stop choice bytes scenario OutOfMemory form stopped = tt

-- a count for each thread
made-each : (selection : List Pickable) (journal : List Entry) (threads : ℕ) → length (counts_made selection journal threads) ≡ threads
unfolding counts_made
made-each selection journal threads = length-map-range_with_len (λ thread. events_made selection journal thread) 0 threads

each-by : (strategy : Strategy) (selected all : List ℕ) (threads : ℕ) → length selected ≡ threads → length all ≡ threads
    → length (counted_by strategy selected all) ≡ threads
each-by Urw selected all threads of_selected of_all = of_all
each-by Surw selected all threads of_selected of_all = of_selected
each-by Pct selected all threads of_selected of_all = of_all
each-by Plain selected all threads of_selected of_all = of_all

-- so the counts of a profile are one for each thread, whatever the strategy
pub profiled-each : (scenario : ScenarioState) (seed : ℕ) (selected all : List ℕ) (strategy : Strategy) → IsProfileOf scenario seed selected all
    → length (counted_by strategy selected all) ≡ length scenario.routines
profiled-each scenario seed selected all strategy is =
    let journal : List Entry = is.made.ends.outcome.journal in
    let setup : Setup = (script is.plan).setup in
    let threads : setup.threads ≡ length scenario.routines = ap length is.planned.routines in
    each-by strategy selected all (length scenario.routines)
    (ap length is.made.selected_made ∙ made-each setup.selection journal setup.threads ∙ threads)
    (ap length is.made.all_made ∙ made-each (Every ∷ []) journal setup.threads ∙ threads)
