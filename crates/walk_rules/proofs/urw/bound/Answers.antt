use Rattle.std.proofs.Common.{◌+◌, length, ap, sym, ◌∙◌, arith}
use Rattle.walk_rules.specs.Urw.{urw_bound}
use Rattle.walk_rules.proofs.KeptNumbers.{number_sum, sum-held}
use Rattle.walk_rules.proofs.urw.bound.Goals as goal

pub loop-passed-init : goal.loop-passed-init
loop-passed-init c = record {
  as_many = omega (arith, ap length c.held-held.ensures.threads);
  sum =
      c.sum-sum.ensures.same
      ∙ sym (sum-held c.args.left.now c.args.view.now c.requires.each c.requires.right)
      ∙ sym (ap (λ threads. urw_bound c.args.left.now c.args.view.now + number_sum c.args.left.now threads) c.held-held.ensures.threads);
}
