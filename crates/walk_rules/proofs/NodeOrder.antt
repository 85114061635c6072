-- Putting the nodes of one list into another order, each to the back.
use Rattle.std.proofs.Common.{◌≡◌, ℕ, zero, suc, ◌+◌, ◌<◌, ◌≤◌, inl, inr, List, [], ◌∷◌, ◌++◌, length, take, get_or, refl, ap, sym, ◌∙◌, arith}
use Rattle.std.proofs.lemmas.Bool.{cases_lt}
use Rattle.std.proofs.lemmas.List.{take_more, take_all, length-append, append_assoc}
use Rattle.frame_links.specs.Lists.{times, without, list_at, node_count, at_back, HasEachOnce, HasSameNodes}
use Rattle.frame_links.proofs.Times.{times-append, times-same, without-append, without-none}
use Rattle.frame_links.proofs.Changes.{at_back-same}
use Rattle.pct_draws.specs.Order.{IsOrder}

-- a list of length n has others first, and then the first of the order
pub record IsOrderedTo (before now : List (List ℕ)) (order : List ℕ) (index : ℕ) : Type 0 where
  pub others : List ℕ
  pub list : list_at now 0 ≡ others ++ take index order
  pub nodes : HasSameNodes before now

only-list : (lists : List (List ℕ)) → length lists ≡ 1 → node_count lists ≡ length (list_at lists 0)
only-list [] one = absurd (omega (arith, one))
only-list (first ∷ []) one = omega arith
only-list (first ∷ second ∷ rest) one = absurd (omega (arith, one))

times-take : (node index : ℕ) (order : List ℕ) → times node (take index order) ≤ times node order
times-take node zero order = omega arith
times-take node (suc index) [] = omega arith
times-take node (suc index) (first ∷ rest) = omega (arith, times-take node index rest)

append-none : (xs : List ℕ) → xs ++ [] ≡ xs
append-none [] = refl
append-none (x ∷ xs) = ap (λ (l : List ℕ). x ∷ l) (append-none xs)

order-once : (before : List (List ℕ)) (order : List ℕ) → IsOrder (node_count before) order → (node : ℕ) → times node order ≤ 1
order-once before order is node = elim (cases_lt node (node_count before)) as (λ _. times node order ≤ 1)
    [ inl low ↦ omega (arith, is.once node low) | inr high ↦ omega (arith, is.only node high) ]

at-there : (order : List ℕ) (index : ℕ) → index < length order → 1 ≤ times (get_or order index 0) order
at-there [] index lt = absurd (omega arith)
at-there (first ∷ rest) zero lt = omega (arith, times-same first first rest refl)
at-there (first ∷ rest) (suc index) lt = omega (arith, at-there rest index (omega arith))

order-low : (before : List (List ℕ)) (order : List ℕ) (index : ℕ) → IsOrder (node_count before) order → index < length order → {now : ℕ}
    → now ≡ node_count before → get_or order index 0 < now
order-low before order index is lt {now} same = elim (cases_lt (get_or order index 0) (node_count before)) as (λ _. get_or order index 0 < now)
    [ inl low ↦ omega (arith, low, same) | inr high ↦ absurd (omega (arith, is.only (get_or order index 0) high, at-there order index lt)) ]

none-others : (xs : List ℕ) → length xs ≡ 0 → xs ≡ []
none-others [] none = refl
none-others (x ∷ xs) none = absurd (omega (arith, none))

-- the node at a place isn't among those before it, where each stands once
prefix-none : (order : List ℕ) (index : ℕ) → index < length order → times (get_or order index 0) order ≤ 1 → times (get_or order index 0) (take index order) ≡ 0
prefix-none order index lt once =
    let more : take (index + 1) order ≡ take index order ++ get_or order index 0 ∷ [] = take_more order index 0 lt in
    let node : ℕ = get_or order index 0 in
    let prefix : times node (take (index + 1) order) ≤ times node order = times-take node (index + 1) order in
    omega (arith, once, prefix, ap (times node) more, times-append node (take index order) (node ∷ []), times-same node node [] refl)

pub ordered-first : (lists : List (List ℕ)) (order : List ℕ) → HasEachOnce lists → IsOrderedTo lists lists order 0
ordered-first lists order each_once =
    record { others = list_at lists 0; list = sym (append-none (list_at lists 0)); nodes = record { lists = refl; nodes = refl; each_once = each_once } }

module _ (before now : List (List ℕ)) (order : List ℕ) (index : ℕ) (one : length before ≡ 1) (is : IsOrder (node_count before) order) (lt : index < length order) where
  abbrev node : ℕ
  node = get_or order index 0

  pub ordered-node : IsOrderedTo before now order index → get_or order index 0 < node_count now
  ordered-node to = order-low before order index is lt to.nodes.nodes

  pub ordered-next : (new : List (List ℕ)) → IsOrderedTo before now order index → new ≡ at_back now 0 (get_or order index 0) → HasSameNodes now new
      → IsOrderedTo before new order (index + 1)
  ordered-next new to moved same =
      let none : times (get_or order index 0) (take index order) ≡ 0 = prefix-none order index lt (order-once before order is (get_or order index 0)) in
      let parts = without-append (get_or order index 0) to.others (take index order) in
      let rest = without-none (get_or order index 0) (take index order) none in
      record {
        others = without (get_or order index 0) to.others;
        list =
            ap (λ ls. list_at ls 0) moved
            ∙ at_back-same now 0 (get_or order index 0) (omega (arith, one, to.nodes.lists))
            ∙ ap (λ l. without (get_or order index 0) l ++ get_or order index 0 ∷ []) to.list
            ∙ ap (λ l. l ++ get_or order index 0 ∷ []) (parts ∙ ap (λ l. without (get_or order index 0) to.others ++ l) rest)
            ∙ append_assoc (without (get_or order index 0) to.others) (take index order) (get_or order index 0 ∷ [])
            ∙ ap (λ l. without (get_or order index 0) to.others ++ l) (sym (take_more order index 0 lt));
        nodes = record { lists = same.lists ∙ to.nodes.lists; nodes = same.nodes ∙ to.nodes.nodes; each_once = same.each_once };
      }

pub ordered-all : (before now : List (List ℕ)) (order : List ℕ) (index : ℕ) → length before ≡ 1 → IsOrder (node_count before) order → length order ≤ index
    → IsOrderedTo before now order index
    → list_at now 0 ≡ order
ordered-all before now order index one is past to =
    let all : take index order ≡ order = take_all index order past in
    let long : length (list_at now 0) ≡ length order = omega (arith, only-list now (omega (arith, one, to.nodes.lists)), to.nodes.nodes, is.long) in
    let whole : list_at now 0 ≡ to.others ++ order = to.list ∙ ap (λ l. to.others ++ l) all in
    whole ∙ ap (λ l. l ++ order) (none-others to.others (omega (arith, ap length whole, long, length-append to.others order)))

-- the one list has each node once
pub only-order : (lists : List (List ℕ)) → length lists ≡ 1 → HasEachOnce lists → IsOrder (node_count lists) (list_at lists 0)
only-order [] one each_once = absurd (omega (arith, one))
only-order (first ∷ second ∷ rest) one each_once = absurd (omega (arith, one))
only-order (first ∷ []) one each_once = record {
  long = omega arith;
  once = λ node low. omega (arith, each_once.once node low);
  only = λ node high. omega (arith, each_once.only node high);
}
