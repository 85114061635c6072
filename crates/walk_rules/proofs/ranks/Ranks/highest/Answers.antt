use Rattle.std.proofs.Common.{◌≡◌, ℕ, ◌<◌, length, Some, ap, sym, subst, ◌∙◌, arith}
use Rattle.std.specs.List.{find}
use Rattle.frame_links.specs.Lists.{list_at}
use Rattle.frame_links.proofs.Changes.{node-within}
use Rattle.walk_rules.specs.Pct.{highest}
use Rattle.walk_rules.specs.Ranked.{Ranked}
use Rattle.pct_draws.specs.Order.{IsOrder}
use Rattle.walk_rules.specs.Seen.{able_threads, is_able, seen_of}
use Rattle.walk_rules.proofs.FallingPriorities.{first-highest, first-some, found-in}
use Rattle.walk_rules.proofs.NodeOrder.{only-order}
use Rattle.walk_rules.proofs.LinkSearch.{not-none-some}
use Rattle.walk_rules.proofs.ranks.Ranks.highest.Goals as goal

pub overflow_cast-node : goal.overflow_cast-node
overflow_cast-node c =
    let found : find (λ thread. is_able (seen_of c.args.view.now thread)) (list_at c.self.inside.by_priority 0) ≡ Some c.in-Some.node =
    sym c.first_able.ensures ∙ c.in-Some.is in
    let low : c.in-Some.node < c.self.inside.threads =
    omega (
      arith,
      c.self.invariant.nodes,
      node-within c.self.inside.by_priority 0 c.in-Some.node c.self.invariant.each_once
          (omega (arith, c.self.invariant.one)) (found-in (λ thread. is_able (seen_of c.args.view.now thread)) (list_at c.self.inside.by_priority 0) c.in-Some.node found),
    ) in
    omega (arith, low, c.self.invariant.few)

pub unwrap-requires : goal.unwrap-requires
unwrap-requires c =
    let found : find (λ thread. is_able (seen_of c.args.view.now thread)) (list_at c.self.inside.by_priority 0) ≡ Some c.in-Some.node =
    sym c.first_able.ensures ∙ c.in-Some.is in
    let low : c.in-Some.node < c.self.inside.threads =
    omega (
      arith,
      c.self.invariant.nodes,
      node-within c.self.inside.by_priority 0 c.in-Some.node c.self.invariant.each_once
          (omega (arith, c.self.invariant.one)) (found-in (λ thread. is_able (seen_of c.args.view.now thread)) (list_at c.self.inside.by_priority 0) c.in-Some.node found),
    ) in
    not-none-some c.new.result (λ none. omega (arith, low, c.self.invariant.few, c.new.ensures.none.0 none))

pub unreachable-requires : goal.unreachable-requires
unreachable-requires c =
    let each : IsOrder (length c.args.view.now) (list_at c.self.inside.by_priority 0) =
    subst (λ (n : ℕ). IsOrder n (list_at c.self.inside.by_priority 0)) (c.self.invariant.nodes ∙ ap (λ (r : Ranked). r.threads) c.self.view_is ∙ sym c.requires.each)
    (only-order c.self.inside.by_priority c.self.invariant.one c.self.invariant.each_once) in
    first-some (list_at c.self.inside.by_priority 0) c.args.view.now each c.requires.able (sym c.first_able.ensures ∙ c.in-None.is)

pub returns-clause-highest : goal.returns-clause-highest
returns-clause-highest c =
    let found : find (λ thread. is_able (seen_of c.args.view.now thread)) (list_at c.self.inside.by_priority 0) ≡ Some c.in-Some.node =
    sym c.first_able.ensures ∙ c.in-Some.is in
    let drawn : length c.self.inside.priorities.items ≡ c.self.inside.threads =
    subst (λ (r : Ranked). length r.priorities ≡ r.threads) (sym c.self.view_is) c.requires.drawn in
    let each : IsOrder (length c.args.view.now) (list_at c.self.inside.by_priority 0) =
    subst (λ (n : ℕ). IsOrder n (list_at c.self.inside.by_priority 0)) (c.self.invariant.nodes ∙ ap (λ (r : Ranked). r.threads) c.self.view_is ∙ sym c.requires.each)
    (only-order c.self.inside.by_priority c.self.invariant.one c.self.invariant.each_once) in
    let number : c.unwrap.result ≡ c.in-Some.node = grind (arith, c.unwrap.ensures, c.new.ensures) in
    number
    ∙ first-highest c.self.inside.priorities.items (list_at c.self.inside.by_priority 0) c.args.view.now c.in-Some.node
    (c.self.invariant.falling drawn) each c.requires.able found
    ∙ ap (λ (r : Ranked). highest r.priorities (able_threads c.args.view.now)) c.self.view_is

pub returns-clause-within : goal.returns-clause-within
returns-clause-within c =
    let found : find (λ thread. is_able (seen_of c.args.view.now thread)) (list_at c.self.inside.by_priority 0) ≡ Some c.in-Some.node =
    sym c.first_able.ensures ∙ c.in-Some.is in
    let low : c.in-Some.node < c.self.inside.threads =
    omega (
      arith,
      c.self.invariant.nodes,
      node-within c.self.inside.by_priority 0 c.in-Some.node c.self.invariant.each_once
          (omega (arith, c.self.invariant.one)) (found-in (λ thread. is_able (seen_of c.args.view.now thread)) (list_at c.self.inside.by_priority 0) c.in-Some.node found),
    ) in
    let number : c.unwrap.result ≡ c.in-Some.node = grind (arith, c.unwrap.ensures, c.new.ensures) in
    omega (arith, number, low, ap (λ (r : Ranked). r.threads) c.self.view_is)
