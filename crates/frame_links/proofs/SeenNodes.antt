-- What a contract sees of linked lists: each node once, and the same nodes after a move.
use Rattle.std.proofs.Common.{◌≡◌, ℕ, ◌<◌, List, [], ◌∷◌, ◌++◌, length, ap, sym, subst, ◌∙◌, arith}
use Rattle.std.proofs.lemmas.List.{length-set, length-map}
use Rattle.frame_links.specs.Lists.{without, list_at, node_count, taken_out, at_back, at_front, just_before, with_before, HasEachOnce, HasSameNodes}
use Rattle.frame_links.specs.Linked.{linked_lists, AreLinked}
use Rattle.frame_links.proofs.WalksGiveLists.{lists-linked}

-- what is linked is what a contract sees of it
pub links-seen : (after before owners : List ℕ) (lists : List (List ℕ)) → AreLinked after before owners lists → AreLinked after before owners (linked_lists after owners)
links-seen after before owners lists are = subst (λ l. AreLinked after before owners l) (sym (lists-linked after before owners lists are)) are

-- a node that a caller may name
pub low-node : (after before owners : List ℕ) (lists seen : List (List ℕ)) (node named : ℕ) → AreLinked after before owners lists → lists ≡ seen
    → node ≡ named → named < node_count seen → node < length owners
low-node after before owners lists seen node named are same is low = omega (arith, low, is, ap node_count same, are.nodes)

-- what is linked has each node once
pub each-once : (after before owners : List ℕ) (lists : List (List ℕ)) → AreLinked after before owners lists → HasEachOnce lists
each-once after before owners lists are = record {
  once = λ node lt. are.once node (omega (arith, lt, are.nodes));
  only = λ node le. are.within node (omega (arith, le, are.nodes));
}

-- a move keeps the number of lists
pub length-at_back : (lists : List (List ℕ)) (list node : ℕ) → length (at_back lists list node) ≡ length lists
length-at_back lists list node = length-set (taken_out node lists) list (without node (list_at lists list) ++ node ∷ []) ∙ length-map lists (without node)

pub length-at_front : (lists : List (List ℕ)) (list node : ℕ) → length (at_front lists list node) ≡ length lists
length-at_front lists list node = length-set (taken_out node lists) list (node ∷ without node (list_at lists list)) ∙ length-map lists (without node)

pub length-just_before : (lists : List (List ℕ)) (node other : ℕ) → length (just_before lists node other) ≡ length lists
length-just_before lists node other = length-map (taken_out node lists) (with_before node other) ∙ length-map lists (without node)

-- the same nodes are linked before a move and after it, as a contract sees both
pub same-nodes : (after before owners after_new before_new owners_new : List ℕ) (lists seen lists_new : List (List ℕ))
    → AreLinked after_new before_new owners_new lists_new
    → length owners_new ≡ length owners → lists ≡ seen → AreLinked after before owners lists → length lists_new ≡ length lists
    → HasSameNodes seen (linked_lists after_new owners_new)
same-nodes after before owners after_new before_new owners_new lists seen lists_new are_new same is are many =
    rw (lists-linked after_new before_new owners_new lists_new are_new) (record {
      lists = omega (arith, many, ap length is);
      nodes = omega (arith, are_new.nodes, same, are.nodes, ap node_count is);
      each_once = each-once after_new before_new owners_new lists_new are_new;
    })
