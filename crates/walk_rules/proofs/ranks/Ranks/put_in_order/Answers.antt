use Rattle.std.proofs.Common.{ℕ, ◌+◌, ◌-◌, length, ap, sym, subst, ◌∙◌, arith}
use Rattle.frame_links.specs.Lists.{list_at}
use Rattle.walk_rules.specs.Pct.{place_of}
use Rattle.walk_rules.specs.Ranked.{Ranked}
use Rattle.pct_draws.specs.Order.{IsOrder}
use Rattle.walk_rules.specs.Ranks.{IsFalling}
use Rattle.walk_rules.proofs.FirstPriorities.{first-falling, priorities_from, length-mapped}
use Rattle.walk_rules.proofs.ranks.Ranks.put_in_order.Goals as goal

pub invariant_of-self : goal.invariant_of-self
invariant_of-self c =
    let each : IsOrder (length c.args.order.now) c.args.order.now = subst (λ (n : ℕ). IsOrder n c.args.order.now) (sym c.requires.order.long) c.requires.order in record {
      one = c.in_order.ensures.same_nodes.lists ∙ c.self.invariant.one;
      nodes = c.in_order.ensures.same_nodes.nodes ∙ c.self.invariant.nodes;
      few = c.self.invariant.few;
      each_once = c.in_order.ensures.same_nodes.each_once;
      drawn = λ some.
          ap length c.priorities_along-self-inside.ensures
          ∙ length-mapped (λ thread. c.args.depth - 1 + length c.args.order.now - place_of c.args.order.now thread) 0 (length c.args.order.now)
          ∙ c.requires.order.long ∙ sym (ap (λ (r : Ranked). r.threads) c.self.view_is);
      falling = λ long.
          subst (λ p. IsFalling p (list_at c.in_order.new.links 0)) (sym c.priorities_along-self-inside.ensures)
          (subst (λ l. IsFalling (priorities_from (c.args.depth - 1 + length c.args.order.now) c.args.order.now) l) (sym c.in_order.ensures.list)
          (first-falling (c.args.depth - 1 + length c.args.order.now) c.args.order.now each (omega arith)));
    }
