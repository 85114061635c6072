use Rattle.std.proofs.Common.{◌≡◌, ◌<◌, All, length, Some, ap, sym, subst, ◌∙◌, arith}
use Rattle.std.proofs.lemmas.List.{length_push}
use Rattle.frame_links.specs.Lists.{list_at, node_count}
use Rattle.frame_links.proofs.Changes.{get-within, get-in, length-list_at, node-within}
use Rattle.page_cache.proofs.ListWalk.{IsListedTo, listed-more, listed-all, next-listed, all-within}
use Rattle.page_cache.proofs.listed.listed.Goals as goal

pub push-requires : goal.push-requires
push-requires c =
    let lt = get-within (list_at c.args.links.now c.args.list) (length c.loop-at.items) c.in-Some.node (sym c.loop-at.invariant.next
    ∙ c.in-Some.is) in
    omega (arith, lt, length-list_at c.args.links.now c.args.list, c.requires.few)

pub next-at-requires : goal.next-at-requires
next-at-requires c =
    node-within c.args.links.now c.args.list c.in-Some.node c.requires.each_once c.requires.list
    (get-in (list_at c.args.links.now c.args.list) (length c.loop-at.items) c.in-Some.node (sym c.loop-at.invariant.next ∙ c.in-Some.is))

pub loop-at-smaller : goal.loop-at-smaller
loop-at-smaller c =
    let lt = get-within (list_at c.args.links.now c.args.list) (length c.loop-at.items) c.in-Some.node (sym c.loop-at.invariant.next
    ∙ c.in-Some.is) in
    omega (arith, lt, ap length c.push.ensures, length_push c.loop-at.items c.in-Some.node)

pub loop-at-preserved : goal.loop-at-preserved
loop-at-preserved c =
    let to : IsListedTo (list_at c.args.links.now c.args.list) c.loop-at.items (Some c.in-Some.node) =
    subst (λ at. IsListedTo (list_at c.args.links.now c.args.list) c.loop-at.items at) c.in-Some.is c.loop-at.invariant in
    rw (c.push.ensures, c.next-at.ensures.next, next-listed c.args.links.now c.args.list c.loop-at.items c.in-Some.node c.requires.each_once c.requires.list to)
    (listed-more (list_at c.args.links.now c.args.list) c.loop-at.items c.in-Some.node to)

pub returns : goal.returns
returns c =
    let is : c.loop-at.items ≡ list_at c.args.links.now c.args.list =
    listed-all (list_at c.args.links.now c.args.list) c.loop-at.items (subst (λ at. IsListedTo
    (list_at c.args.links.now c.args.list) c.loop-at.items at) c.in_default.is c.loop-at.invariant) in
    record {
      list = is;
      within = subst (λ items. All (λ node. node < node_count c.args.links.now) items) (sym is)
          (all-within c.args.links.now c.args.list c.requires.each_once c.requires.list);
    }
