-- A scenario has one profile, or none for one cause.
use Rattle.std.proofs.Common.{◌≡◌, ◌≢◌, ℕ, List, ap, sym, subst, ◌∙◌}
use Rattle.fault_text.specs.declared.fault.Fault.{Fault}
use Rattle.pure_run.proofs.OneProfile.{one-profile}
use Rattle.pure_run.specs.Profile.{IsProfile, IsProfileStop}
use Rattle.pure_run.specs.declared.profiling.ProfileFault.{ProfileFault}
use Rattle.pure_run.specs.declared.profiling.ProfileFault.TheVariants.{StepLimit, Deadlock, OutOfMemory}
use Rattle.routine_kit.specs.declared.any_routine.AnyRoutine.{AnyRoutine}
use Rattle.run_rules.specs.Setup.{Script}
use Rattle.run_rules.specs.declared.plan.Plan.{Plan}
use Rattle.scenario_toml.specs.FollowPlan.{no_counts}
use Rattle.scenario_toml.specs.State.{ScenarioState}
use Rattle.seed_draws.specs.declared.any_draws.AnyDraws.{AnyDraws}
use Rattle.surw_cli.specs.Profiled.{IsProfileOf, IsProfilePlan, IsUnprofiled, StopsProfile, plain_choice}
use Rattle.surw_cli.specs.Script.{script}
use Rattle.surw_cli.specs.Stop.{stop_of_profile}
use Rattle.surw_cli.specs.declared.stop.Stop.TheVariants.{Refused}
use Rattle.surw_cli.proofs.OneScript.{script-one}

module _ (scenario : ScenarioState) (seed : ℕ) where
  same-script : (plan twin : Plan AnyRoutine AnyDraws AnyDraws) → IsProfilePlan scenario plan → IsProfilePlan scenario twin → script twin ≡ script plan
  same-script plan twin is are = script-one scenario plain_choice (no_counts scenario) plan twin is are

  -- its counts are one
  pub profile-one : (selected all others totals : List ℕ) → IsProfileOf scenario seed selected all → IsProfileOf scenario seed others totals
      → (others ≡ selected) × (totals ≡ all)
  profile-one selected all others totals is twin =
      let same = same-script is.plan twin.plan is.planned twin.planned in
      (one-profile (script is.plan) seed).counts selected all others totals is.made
      (subst (λ (s : Script). IsProfile s seed others totals) same twin.made)

  -- a cause that refuses is no want of memory
  refused : (fault : ProfileFault) (refusal : Fault) → IsUnprofiled scenario seed fault → stop_of_profile fault ≡ Refused refusal
      → StopsProfile scenario seed fault × (fault ≢ OutOfMemory)
  refused StepLimit refusal stops is = (stops, λ same. cc same)
  refused (Deadlock step) refusal stops is = (stops, λ same. cc same)
  refused OutOfMemory refusal stops is = cc is

  -- where there is a profile nothing refuses it
  pub never-refused : (selected all : List ℕ) (fault : ProfileFault) (refusal : Fault) → IsProfileOf scenario seed selected all → IsUnprofiled scenario seed fault
      → stop_of_profile fault ≡ Refused refusal → ⊥
  never-refused selected all fault refusal is none stop =
      let because = refused fault refusal none stop in
      let same = same-script is.plan because.0.plan is.planned because.0.planned in
      because.1 ((one-profile (script is.plan) seed).ends selected all fault is.made
      (subst (λ (s : Script). IsProfileStop s seed fault) same because.0.stopped))

  -- and what refuses it is one
  pub refusal-one : (fault other : ProfileFault) (refusal twin : Fault) → IsUnprofiled scenario seed fault → IsUnprofiled scenario seed other
      → stop_of_profile fault ≡ Refused refusal → stop_of_profile other ≡ Refused twin → twin ≡ refusal
  refusal-one fault other refusal twin none are stop again =
      let one = refused fault refusal none stop in
      let two = refused other twin are again in
      let same = same-script one.0.plan two.0.plan one.0.planned two.0.planned in
      let faults : other ≡ fault =
      (one-profile (script one.0.plan) seed).stops fault other one.1 two.1 one.0.stopped
      (subst (λ (s : Script). IsProfileStop s seed other) same two.0.stopped) in
      let stops : Refused twin ≡ Refused refusal = sym again ∙ ap stop_of_profile faults ∙ stop in
      cc stops
