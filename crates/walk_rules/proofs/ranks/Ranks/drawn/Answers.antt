use Rattle.std.proofs.Common.{◌≡◌, ℕ, length, subst, arith}
use Rattle.frame_links.specs.Lists.{list_at}
use Rattle.walk_rules.specs.Ranked.{Ranked}
use Rattle.pct_draws.specs.Order.{IsOrder}
use Rattle.walk_rules.specs.Ranks.{AreByPriority}
use Rattle.walk_rules.proofs.NodeOrder.{only-order}
use Rattle.walk_rules.proofs.ranks.Ranks.drawn.Goals as goal

pub returns-then-len-gt0-clause-threads : goal.returns-then-len-gt0-clause-threads
returns-then-len-gt0-clause-threads c =
    let whole : length c.self.inside.priorities.items ≡ c.self.inside.threads = c.self.invariant.drawn (omega (arith, c.if-len-gt0.true, c.len.ensures.value)) in
    subst (λ (r : Ranked). AreByPriority r.threads r.priorities c.self.inside.by_priority) c.self.view_is
    (record {
      one = c.self.invariant.one;
      nodes = c.self.invariant.nodes;
      order = subst (λ (n : ℕ). IsOrder n (list_at c.self.inside.by_priority 0)) c.self.invariant.nodes
          (only-order c.self.inside.by_priority c.self.invariant.one c.self.invariant.each_once);
      falling = c.self.invariant.falling whole;
    })
