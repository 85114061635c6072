-- Going over a list of links.
use Rattle.std.proofs.Common.{◌≡◌, ℕ, suc, ◌+◌, ◌<◌, ◌≤◌, List, [], ◌∷◌, ◌++◌, length, take, get_or, Option, None, Some, ap, sym, ◌∙◌, arith}
use Rattle.std.specs.Prelude.{slice_get, All}
use Rattle.std.proofs.lemmas.Option.{slice_get-get_or}
use Rattle.std.proofs.lemmas.List.{take_more, take_all, length_push}
use Rattle.frame_links.specs.Lists.{times, times_in, list_at, list_of, next_in, node_count, HasEachOnce}
use Rattle.frame_links.proofs.Counts.{times_in-at}
use Rattle.frame_links.proofs.Changes.{get-within, get-is, get-in, get-none, next-at, list_of-in, node-within}

-- the nodes listed so far, and the one at which it goes on
pub record IsListedTo (all items : List ℕ) (at : Option ℕ) : Type 0 where
  pub front : items ≡ take (length items) all
  pub next : at ≡ slice_get all (length items)
  pub within : length items ≤ length all

-- one more
pub listed-more : (all items : List ℕ) (node : ℕ) → IsListedTo all items (Some node)
    → IsListedTo all (items ++ node ∷ []) (slice_get all (suc (length items)))
listed-more all items node to =
    let there : slice_get all (length items) ≡ Some node = sym to.next in
    let lt : length items < length all = get-within all (length items) node there in
    let more : length (items ++ node ∷ []) ≡ length items + 1 = length_push items node in
    record {
      front = (λ i. to.front i ++ sym (get-is all (length items) node 0 there) i ∷ []) ∙ sym (take_more all (length items) 0 lt)
          ∙ ap (λ n. take n all) (sym more);
      next = ap (slice_get all) (omega (arith, more));
      within = omega (arith, more, lt);
    }

-- the end
pub listed-all : (all items : List ℕ) → IsListedTo all items None → items ≡ all
listed-all all items to = to.front ∙ take_all (length items) all (get-none all (length items) (sym to.next))

-- the node after one of a list
pub next-listed : (lists : List (List ℕ)) (list : ℕ) (items : List ℕ) (node : ℕ) → HasEachOnce lists → list < length lists
    → IsListedTo (list_at lists list) items (Some node)
    → next_in node (list_at lists (list_of lists node)) ≡ slice_get (list_at lists list) (suc (length items))
next-listed lists list items node each_once lt to =
    let there : slice_get (list_at lists list) (length items) ≡ Some node = sym to.next in
    let here : 1 ≤ times node (list_at lists list) = get-in (list_at lists list) (length items) node there in
    let once : times_in node lists ≡ 1 = each_once.once node (node-within lists list node each_once lt here) in
    ap (λ n. next_in node (list_at lists n)) (list_of-in lists list node once lt here)
    ∙ next-at (list_at lists list) (length items) node there (omega (arith, once, times_in-at node lists list lt))

-- all nodes of a list are nodes
pub all-within : (lists : List (List ℕ)) (list : ℕ) → HasEachOnce lists → list < length lists
    → All (λ node. node < node_count lists) (list_at lists list)
all-within lists list each_once lt = λ place default here.
    node-within lists list (get_or (list_at lists list) place default) each_once lt (get-in (list_at lists list) place (get_or
    (list_at lists list) place default) (slice_get-get_or (list_at lists list) place default here))
