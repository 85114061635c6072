use Rattle.std.proofs.Common.{◌≡◌, ◌≢◌, ℕ, ◌<◌, length, get_or, ltb, ap, sym, subst, ◌∙◌, arith}
use Rattle.std.proofs.lemmas.List.{length-set}
use Rattle.std.specs.List.{find}
use Rattle.frame_links.specs.Lists.{list_at}
use Rattle.frame_links.proofs.Changes.{node-within}
use Rattle.walk_rules.specs.Ranked.{Ranked}
use Rattle.walk_rules.proofs.FallingPriorities.{found-in, lower-other, ranked-back, ranked-before}
use Rattle.walk_rules.proofs.ranks.Ranks.give.Goals as goal

pub before-requires-clause-apart : goal.before-requires-clause-apart
before-requires-clause-apart c =
    let drawn : length c.self.inside.priorities.items ≡ c.self.inside.threads =
    subst (λ (r : Ranked). length r.priorities ≡ r.threads) (sym c.self.view_is) c.requires.drawn in
    let within : c.args.thread < length c.self.inside.priorities.items = omega (arith, drawn, c.requires.thread, ap (λ (r : Ranked). r.threads) c.self.view_is) in
    let node : c.from-node.result ≡ c.args.thread = c.from-node.ensures ∙ c.get.ensures.same in
    lower-other c.self.inside.by_priority c.self.inside.priorities.items c.set_priority.new.priorities.items c.args.thread c.from-node.result c.args.priority
    c.in-Some.lower within c.set_priority.ensures node
    (ap (λ p. find (λ t. ltb (get_or p t 0) c.args.priority) (list_at c.self.inside.by_priority 0)) (sym c.as_slice.ensures.value)
    ∙ sym c.first_lower.ensures ∙ c.in-Some.is)

pub before-requires-clause-other : goal.before-requires-clause-other
before-requires-clause-other c =
    node-within c.self.inside.by_priority 0 c.in-Some.lower c.self.invariant.each_once (omega (arith, c.self.invariant.one))
    (found-in _ (list_at c.self.inside.by_priority 0) c.in-Some.lower (sym c.first_lower.ensures ∙ c.in-Some.is))

pub invariant_of-self : goal.invariant_of-self
invariant_of-self c =
    let drawn : length c.self.inside.priorities.items ≡ c.self.inside.threads =
    subst (λ (r : Ranked). length r.priorities ≡ r.threads) (sym c.self.view_is) c.requires.drawn in
    let within : c.args.thread < length c.self.inside.priorities.items = omega (arith, drawn, c.requires.thread, ap (λ (r : Ranked). r.threads) c.self.view_is) in
    let node : c.from-node.result ≡ c.args.thread = c.from-node.ensures ∙ c.get.ensures.same in
    let apart : (other : ℕ) → get_or c.self.inside.priorities.items other 0 ≢ c.args.priority =
    subst (λ (r : Ranked). (other : ℕ) → get_or r.priorities other 0 ≢ c.args.priority) (sym c.self.view_is) c.requires.apart in record {
      one = c.before-in-Some.ensures.same_nodes.lists ∙ c.self.invariant.one;
      nodes = c.before-in-Some.ensures.same_nodes.nodes ∙ c.self.invariant.nodes;
      few = c.self.invariant.few;
      each_once = c.before-in-Some.ensures.same_nodes.each_once;
      drawn = λ some. ap length c.set_priority.ensures ∙ length-set c.self.inside.priorities.items c.args.thread c.args.priority ∙ drawn;
      falling = λ long.
          ranked-before c.self.inside.by_priority c.before-in-Some.new.self c.self.inside.priorities.items c.set_priority.new.priorities.items c.args.thread
          c.from-node.result c.args.priority c.in-Some.lower
          c.self.invariant.one (c.self.invariant.falling drawn) within apart c.set_priority.ensures node
          (ap (λ p. find (λ t. ltb (get_or p t 0) c.args.priority) (list_at c.self.inside.by_priority 0)) (sym c.as_slice.ensures.value)
          ∙ sym c.first_lower.ensures ∙ c.in-Some.is) c.before-in-Some.ensures.after;
    }

pub invariant_of-self-in-None : goal.invariant_of-self-in-None
invariant_of-self-in-None c =
    let drawn : length c.self.inside.priorities.items ≡ c.self.inside.threads =
    subst (λ (r : Ranked). length r.priorities ≡ r.threads) (sym c.self.view_is) c.requires.drawn in
    let within : c.args.thread < length c.self.inside.priorities.items = omega (arith, drawn, c.requires.thread, ap (λ (r : Ranked). r.threads) c.self.view_is) in
    let node : c.from-node.result ≡ c.args.thread = c.from-node.ensures ∙ c.get.ensures.same in
    let apart : (other : ℕ) → get_or c.self.inside.priorities.items other 0 ≢ c.args.priority =
    subst (λ (r : Ranked). (other : ℕ) → get_or r.priorities other 0 ≢ c.args.priority) (sym c.self.view_is) c.requires.apart in record {
      one = c.to_back.ensures.same_nodes.lists ∙ c.self.invariant.one;
      nodes = c.to_back.ensures.same_nodes.nodes ∙ c.self.invariant.nodes;
      few = c.self.invariant.few;
      each_once = c.to_back.ensures.same_nodes.each_once;
      drawn = λ some. ap length c.set_priority.ensures ∙ length-set c.self.inside.priorities.items c.args.thread c.args.priority ∙ drawn;
      falling = λ long.
          ranked-back c.self.inside.by_priority c.to_back.new.self c.self.inside.priorities.items c.set_priority.new.priorities.items c.args.thread
          c.from-node.result c.args.priority
          c.self.invariant.one (c.self.invariant.falling drawn) within apart c.set_priority.ensures node
          (ap (λ p. find (λ t. ltb (get_or p t 0) c.args.priority) (list_at c.self.inside.by_priority 0)) (sym c.as_slice.ensures.value)
          ∙ sym c.first_lower.ensures ∙ c.in-None.is) c.to_back.ensures.after;
    }
