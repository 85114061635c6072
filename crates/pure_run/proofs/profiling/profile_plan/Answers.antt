use Rattle.std.proofs.Common.{◌≡◌, ℕ, length, replicate, refl, ap, ◌∙◌, arith}
use Rattle.seed_draws.specs.Answers.{source_of}
use Rattle.walk_rules.specs.declared.rule.Rule.TheVariants.{Plain}
use Rattle.walk_rules.specs.State.{new_walk}
use Rattle.pure_run.proofs.ProfilePlan.{plain-plan-valid}
use Rattle.pure_run.proofs.profiling.profile_plan.Goals as goal

pub no_counts-requires : goal.no_counts-requires
no_counts-requires g c =
    let plan = c.args.plan.now in
    omega (arith, (c.requires.valid (source_of g.S.Draws plan.selected) (source_of g.O.Draws plan.other)).threads)

pub returns-clause-valid : goal.returns-clause-valid
returns-clause-valid g c =
    let threads : c.len.result ≡ length c.args.plan.now.routines.items = omega (arith, c.len.ensures, c.args.plan.now.routines.ok.0) in
    plain-plan-valid c.args.plan.now _
    (record {
      size = refl;
      routines = c.in_ok-copies.ensures ∙ c.as_slice.ensures.value;
      selection = c.in_ok-copy.ensures;
      walk = c.in_ok-new.ensures ∙ ap (new_walk Plain) (c.no_counts.ensures ∙ ap (λ n. replicate {A = ℕ} n 0) threads);
      max_steps = refl;
      monitors = c.new-5.ensures.items;
    })
    c.requires
