use Rattle.std.proofs.Common.{Some, ap, sym, subst, ◌∙◌, arith}
use Rattle.frame_links.specs.Lists.{list_at}
use Rattle.walk_rules.specs.Seen.{is_able, seen_of}
use Rattle.walk_rules.proofs.LinkSearch.{IsSearchTo, at-most-once, search-first, search-found, search-link, search-next, search-node, search-none, search-smaller}
use Rattle.walk_rules.proofs.ranks.first_able.Goals as goal

pub loop-at-init : goal.loop-at-init
loop-at-init c =
    rw (c.first-at.ensures.first)
    (search-first (λ thread. is_able (seen_of c.args.view.now thread)) (list_at c.args.links.now 0) (at-most-once c.args.links.now c.requires.one c.requires.each_once))

pub bounds-view-from : goal.bounds-view-from
bounds-view-from c =
    let to : IsSearchTo (λ thread. is_able (seen_of c.args.view.now thread)) (list_at c.args.links.now 0) (Some c.in-Some.node) =
    subst (λ at. IsSearchTo (λ thread. is_able (seen_of c.args.view.now thread)) (list_at c.args.links.now 0) at) c.in-Some.is c.loop-at.invariant in
    omega (
      arith,
      c.from.ensures,
      c.requires.each,
      search-node
          (λ thread. is_able (seen_of c.args.view.now thread)) c.args.links.now c.in-Some.node c.requires.one c.requires.each_once to,
    )

pub returns-then-is_able : goal.returns-then-is_able
returns-then-is_able c =
    let to : IsSearchTo (λ thread. is_able (seen_of c.args.view.now thread)) (list_at c.args.links.now 0) (Some c.in-Some.node) =
    subst (λ at. IsSearchTo (λ thread. is_able (seen_of c.args.view.now thread)) (list_at c.args.links.now 0) at) c.in-Some.is c.loop-at.invariant in
    search-found (λ thread. is_able (seen_of c.args.view.now thread)) (list_at c.args.links.now 0) c.in-Some.node to
    (ap (λ n. is_able (seen_of c.args.view.now n)) (sym c.from.ensures) ∙ sym c.is_able.ensures ∙ c.if-is_able.true)

pub next-at-requires : goal.next-at-requires
next-at-requires c =
    let to : IsSearchTo (λ thread. is_able (seen_of c.args.view.now thread)) (list_at c.args.links.now 0) (Some c.in-Some.node) =
    subst (λ at. IsSearchTo (λ thread. is_able (seen_of c.args.view.now thread)) (list_at c.args.links.now 0) at) c.in-Some.is c.loop-at.invariant in
    search-node (λ thread. is_able (seen_of c.args.view.now thread)) c.args.links.now c.in-Some.node c.requires.one c.requires.each_once to

pub loop-at-smaller : goal.loop-at-smaller
loop-at-smaller c =
    let to : IsSearchTo (λ thread. is_able (seen_of c.args.view.now thread)) (list_at c.args.links.now 0) (Some c.in-Some.node) =
    subst (λ at. IsSearchTo (λ thread. is_able (seen_of c.args.view.now thread)) (list_at c.args.links.now 0) at) c.in-Some.is c.loop-at.invariant in
    rw (
      c.in-Some.is,
      c.next-at.ensures.next,
      search-link
          (λ thread. is_able (seen_of c.args.view.now thread)) c.args.links.now c.in-Some.node c.requires.one c.requires.each_once to,
    )
    (search-smaller (λ thread. is_able (seen_of c.args.view.now thread)) (list_at c.args.links.now 0) c.in-Some.node to
    (at-most-once c.args.links.now c.requires.one c.requires.each_once))

pub loop-at-preserved : goal.loop-at-preserved
loop-at-preserved c =
    let to : IsSearchTo (λ thread. is_able (seen_of c.args.view.now thread)) (list_at c.args.links.now 0) (Some c.in-Some.node) =
    subst (λ at. IsSearchTo (λ thread. is_able (seen_of c.args.view.now thread)) (list_at c.args.links.now 0) at) c.in-Some.is c.loop-at.invariant in
    rw (c.next-at.ensures.next, search-link (λ thread. is_able (seen_of c.args.view.now thread)) c.args.links.now c.in-Some.node c.requires.one c.requires.each_once to)
    (search-next (λ thread. is_able (seen_of c.args.view.now thread)) (list_at c.args.links.now 0) c.in-Some.node to
    (at-most-once c.args.links.now c.requires.one c.requires.each_once)
    (ap (λ n. is_able (seen_of c.args.view.now n)) (sym c.from.ensures) ∙ sym c.is_able.ensures ∙ c.if-is_able.false))

pub returns : goal.returns
returns c = search-none (λ thread. is_able (seen_of c.args.view.now thread)) (list_at c.args.links.now 0)
    (subst (λ at. IsSearchTo (λ thread. is_able (seen_of c.args.view.now thread)) (list_at c.args.links.now 0) at) c.in_default.is c.loop-at.invariant)
