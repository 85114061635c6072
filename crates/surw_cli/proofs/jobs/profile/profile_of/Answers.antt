use Rattle.std.proofs.Common.{ℕ, List, subst}
use Rattle.std.proofs.lemmas.Result.{IfErr-weaker, IfOk-weaker}
use Rattle.scenario_toml.specs.Plan.{IsPlanOf}
use Rattle.surw_cli.specs.Profiled.{IsProfilePlan, plain_choice}
use Rattle.surw_cli.proofs.ProfileStops.{unprofiled}
use Rattle.surw_cli.proofs.jobs.profile.profile_of.Goals as goal

pub returns-clause-found : goal.returns-clause-found
returns-clause-found c =
    let scenario = c.args.scenario.now in
    let plan = c.in_ok-plan.plan in
    let planned : IsProfilePlan scenario plan =
    subst (λ (counts : List ℕ). IsPlanOf scenario plain_choice counts plan) c.no_counts.ensures c.in_ok-plan.ensures.plan in
    IfOk-weaker c.profile.result _ _
    (λ found made. record {
      plan = plan;
      planned = planned;
      made = made;
    }) c.profile.ensures.counts

pub returns-clause-stopped : goal.returns-clause-stopped
returns-clause-stopped c =
    let scenario = c.args.scenario.now in
    let plan = c.in_ok-plan.plan in
    let planned : IsProfilePlan scenario plan =
    subst (λ (counts : List ℕ). IsPlanOf scenario plain_choice counts plan) c.no_counts.ensures c.in_ok-plan.ensures.plan in
    IfErr-weaker c.profile.result _ _
    (λ fault stopped. unprofiled scenario c.args.seed plan fault planned stopped) c.profile.ensures.stopped
