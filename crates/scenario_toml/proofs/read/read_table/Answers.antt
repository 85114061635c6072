use Rattle.std.proofs.Common.{◌≡◌, ℕ, length, refl, subst, arith}
use Rattle.std.proofs.lemmas.Grind.{common_steps}
use Rattle.scenario_toml.specs.State.{HasCounts}
use Rattle.scenario_toml.proofs.read.read_table.Goals as goal

pub invariant_of-result : goal.invariant_of-result
invariant_of-result c = record {
  depth_some = c.in_ok-settings.ensures.depth.0;
  depth_most = c.in_ok-settings.ensures.depth.1;
  steps_some = c.in_ok-settings.ensures.steps.0;
  steps_most = c.in_ok-settings.ensures.steps.1;
  limits = c.in_ok-size.ensures.limits;
  threads = c.in_ok-routines.ensures.few;
  counted =
      let many : c.len.result ≡ length c.in_ok-routines.routines.items = grind (arith, common_steps) in
      subst (λ (threads : ℕ). HasCounts c.in_ok-counts.counts threads) many c.in_ok-counts.ensures.counted;
  watchers = grind (arith, common_steps);
  watched = c.in_ok-monitors.ensures.watched c.in_ok-size.size refl;
}
