use Rattle.std.proofs.Common.{length, ap, arith, rules}
use Rattle.std.proofs.lemmas.Grind.{common_steps}
use Rattle.scenario_toml.proofs.MadeThreads.{length-made}
use Rattle.scenario_toml.proofs.made.made_scenario.Goals as goal

pub invariant_of-result : goal.invariant_of-result
invariant_of-result c = record {
  depth_some = omega arith;
  depth_most = omega arith;
  steps_some = omega arith;
  steps_most = omega arith;
  limits = search rules;
  threads = omega (arith, ap length c.in_ok-routines.ensures, length-made c.args.number 16);
  counted = tt;
  watchers = grind (arith, common_steps);
  watched = rw c.new.ensures.items (λ k d lt. absurd (omega (arith, lt)));
}
