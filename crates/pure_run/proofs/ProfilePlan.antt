-- The plan of the profile's run can be run.
use Rattle.std.proofs.Common.{◌≡◌, ◌≤◌, List, [], All, length, replicate, sum, sym, subst, arith, rules}
use Rattle.std.proofs.lemmas.Bool.{false≢true}
use Rattle.std.proofs.lemmas.List.{length-replicate}
use Rattle.std.proofs.lemmas.List.Elements.{All-nil}
use Rattle.std.proofs.lemmas.List.Folds.{sum_by-replicate}
use Rattle.surw_base.specs.declared.limits.TheConstants.{STEPS}
use Rattle.event_class.specs.declared.pickable.Pickable.{Pickable}
use Rattle.seed_draws.specs.Answers.{Source}
use Rattle.test_world.specs.Monitor.{CanWatch}
use Rattle.walk_rules.specs.declared.rule.Rule.TheVariants.{Plain}
use Rattle.walk_rules.specs.State.{WalkState, new_walk}
use Rattle.run_rules.specs.declared.plan.Plan.{Plan}
use Rattle.run_rules.specs.Plan.{IsValidPlan, setup_with}
use Rattle.run_rules.specs.Setup.{IsValid, SelectsAllUnder, Setup}

-- a setup with the rule, the counts and the monitors of the profile's run
abbrev plain_setup : Setup → Setup
plain_setup setup = record setup { rule = Plain; counts = replicate setup.threads 0; monitors = [] }

-- the plain rule takes any selection
plain-selects : (selection : List Pickable) → SelectsAllUnder Plain selection
plain-selects selection wants = absurd (false≢true wants)

-- it is valid where the other is, in all that it leaves as it is
plain-valid : (setup : Setup) → IsValid setup → IsValid (plain_setup setup)
plain-valid setup valid =
    let counted : length (plain_setup setup).counts ≡ setup.threads = length-replicate setup.threads 0 in
    let few : sum (plain_setup setup).counts ≤ STEPS = omega (arith, sum_by-replicate (λ n. n) setup.threads 0) in
    let watched : All (CanWatch setup.size) [] = All-nil (CanWatch setup.size) in
    let every : SelectsAllUnder Plain setup.selection = plain-selects setup.selection in
    search (rules, watched, every)

-- a plan with these parts of another, and with the rest of the profile's
pub record IsPlainPlan {R S O X Y : Type 0} (plan : Plan R S O) (plain : Plan R X Y) : Type 0 where
  pub size : plain.world ≡ plan.world
  pub routines : plain.routines.items ≡ plan.routines.items
  pub selection : plain.selection ≡ plan.selection
  pub walk : plain.walk ≡ new_walk Plain (replicate (length plan.routines.items) 0)
  pub max_steps : plain.max_steps ≡ plan.max_steps
  pub monitors : plain.monitors.items ≡ []

same-setup : {R S O X Y : Type 0} (plan : Plan R S O) (plain : Plan R X Y) → IsPlainPlan plan plain → (selected other : Source)
    → setup_with selected other plain ≡ plain_setup (setup_with selected other plan)
same-setup plan plain is selected other = λ i. record {
  size = is.size i;
  threads = length (is.routines i);
  selection = is.selection i;
  rule = (is.walk i).rule;
  counts = (is.walk i).counts;
  selected = selected;
  other = other;
  max_steps = is.max_steps i;
  monitors = is.monitors i;
}

-- such a plan can be run where the other can
pub plain-plan-valid : {R S O X Y : Type 0} (plan : Plan R S O) (plain : Plan R X Y) → IsPlainPlan plan plain → IsValidPlan plan → IsValidPlan plain
plain-plan-valid plan plain is valid = record {
  valid = λ selected other.
      subst IsValid (sym (same-setup plan plain is selected other)) (plain-valid (setup_with selected other plan) (valid.valid selected other));
  fresh = subst (λ (walk : WalkState). walk ≡ new_walk walk.rule walk.counts) (sym is.walk) (λ i. new_walk Plain (replicate (length plan.routines.items) 0));
}
