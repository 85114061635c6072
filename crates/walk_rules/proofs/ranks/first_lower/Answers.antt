use Rattle.std.proofs.Common.{ltb, get_or, Some, subst, arith}
use Rattle.frame_links.specs.Lists.{list_at}
use Rattle.walk_rules.proofs.LinkSearch.{IsSearchTo, at-most-once, high-is, low-is, search-first, search-found, search-link, search-next, search-node, search-none, search-smaller}
use Rattle.walk_rules.proofs.ranks.first_lower.Goals as goal

pub loop-at-init : goal.loop-at-init
loop-at-init c =
    rw (c.first-at.ensures.first)
    (search-first (λ thread. ltb (get_or c.args.priorities.now thread 0) c.args.priority) (list_at c.args.links.now 0)
    (at-most-once c.args.links.now c.requires.one c.requires.each_once))

pub bounds-priorities-from : goal.bounds-priorities-from
bounds-priorities-from c =
    let to : IsSearchTo (λ thread. ltb (get_or c.args.priorities.now thread 0) c.args.priority) (list_at c.args.links.now 0) (Some c.in-Some.node) =
    subst (λ at. IsSearchTo (λ thread. ltb (get_or c.args.priorities.now thread 0) c.args.priority) (list_at c.args.links.now 0) at) c.in-Some.is c.loop-at.invariant in
    omega (
      arith,
      c.from.ensures,
      c.requires.each,
      search-node
          (λ thread. ltb (get_or c.args.priorities.now thread 0) c.args.priority) c.args.links.now c.in-Some.node c.requires.one c.requires.each_once to,
    )

pub returns-then-priorities-from : goal.returns-then-priorities-from
returns-then-priorities-from c =
    let to : IsSearchTo (λ thread. ltb (get_or c.args.priorities.now thread 0) c.args.priority) (list_at c.args.links.now 0) (Some c.in-Some.node) =
    subst (λ at. IsSearchTo (λ thread. ltb (get_or c.args.priorities.now thread 0) c.args.priority) (list_at c.args.links.now 0) at) c.in-Some.is c.loop-at.invariant in
    search-found (λ thread. ltb (get_or c.args.priorities.now thread 0) c.args.priority) (list_at c.args.links.now 0) c.in-Some.node to
    (low-is c.args.priorities.now c.in-Some.node c.from.result c.args.priority c.from.ensures c.if-priorities-from.true)

pub next-at-requires : goal.next-at-requires
next-at-requires c =
    let to : IsSearchTo (λ thread. ltb (get_or c.args.priorities.now thread 0) c.args.priority) (list_at c.args.links.now 0) (Some c.in-Some.node) =
    subst (λ at. IsSearchTo (λ thread. ltb (get_or c.args.priorities.now thread 0) c.args.priority) (list_at c.args.links.now 0) at) c.in-Some.is c.loop-at.invariant in
    search-node (λ thread. ltb (get_or c.args.priorities.now thread 0) c.args.priority) c.args.links.now c.in-Some.node c.requires.one c.requires.each_once to

pub loop-at-smaller : goal.loop-at-smaller
loop-at-smaller c =
    let to : IsSearchTo (λ thread. ltb (get_or c.args.priorities.now thread 0) c.args.priority) (list_at c.args.links.now 0) (Some c.in-Some.node) =
    subst (λ at. IsSearchTo (λ thread. ltb (get_or c.args.priorities.now thread 0) c.args.priority) (list_at c.args.links.now 0) at) c.in-Some.is c.loop-at.invariant in
    rw (
      c.in-Some.is,
      c.next-at.ensures.next,
      search-link
          (λ thread. ltb (get_or c.args.priorities.now thread 0) c.args.priority) c.args.links.now c.in-Some.node c.requires.one c.requires.each_once to,
    )
    (search-smaller (λ thread. ltb (get_or c.args.priorities.now thread 0) c.args.priority) (list_at c.args.links.now 0) c.in-Some.node to
    (at-most-once c.args.links.now c.requires.one c.requires.each_once))

pub loop-at-preserved : goal.loop-at-preserved
loop-at-preserved c =
    let to : IsSearchTo (λ thread. ltb (get_or c.args.priorities.now thread 0) c.args.priority) (list_at c.args.links.now 0) (Some c.in-Some.node) =
    subst (λ at. IsSearchTo (λ thread. ltb (get_or c.args.priorities.now thread 0) c.args.priority) (list_at c.args.links.now 0) at) c.in-Some.is c.loop-at.invariant in
    rw (
      c.next-at.ensures.next,
      search-link
          (λ thread. ltb (get_or c.args.priorities.now thread 0) c.args.priority) c.args.links.now c.in-Some.node c.requires.one c.requires.each_once to,
    )
    (search-next (λ thread. ltb (get_or c.args.priorities.now thread 0) c.args.priority) (list_at c.args.links.now 0) c.in-Some.node to
    (at-most-once c.args.links.now c.requires.one c.requires.each_once)
    (high-is c.args.priorities.now c.in-Some.node c.from.result c.args.priority c.from.ensures c.if-priorities-from.false))

pub returns : goal.returns
returns c = search-none (λ thread. ltb (get_or c.args.priorities.now thread 0) c.args.priority) (list_at c.args.links.now 0)
    (subst (λ at. IsSearchTo (λ thread. ltb (get_or c.args.priorities.now thread 0) c.args.priority) (list_at c.args.links.now 0) at) c.in_default.is c.loop-at.invariant)
