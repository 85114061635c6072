-- Going over the one list of links until a node passes a test.
use Rattle.std.proofs.Common.{◌≡◌, ℕ, zero, suc, ◌+◌, ◌-◌, ◌<◌, ◌≤◌, inl, inr, ltb, Bool, true, false, cond, List, [], ◌∷◌, length, drop, get_or, Option, Some, None, IsNone, IsSome, refl, ap, sym, ◌∙◌, arith}
use Rattle.std.specs.Prelude.{slice_get}
use Rattle.std.proofs.lemmas.Bool.{cases_lt, cases_Bool, eq-eqb, ne_eqb, ltb-true, ltb-false}
use Rattle.std.proofs.lemmas.List.{drop_more, drop_all}
use Rattle.std.specs.List.{find}
use Rattle.frame_links.specs.Lists.{times, times_in, list_at, list_of, next_in, node_count, HasEachOnce}
use Rattle.frame_links.proofs.Times.{times-same}
use Rattle.frame_links.proofs.Counts.{times_in-at}
use Rattle.frame_links.proofs.Changes.{get-within, get-is, get-in, get-none, next-at, list_of-in, node-within}
use Rattle.walk_rules.specs.Pct.{place_of}

-- the place of a thread that stands there and nowhere else
pub place-at : (order : List ℕ) (place node : ℕ) → slice_get order place ≡ Some node → times node order ≤ 1 → place_of order node ≡ place
unfolding place_of
place-at [] place node is once = absurd (cc)
place-at (first ∷ rest) zero node is once =
    let same : first ≡ node = cc in
    ap (λ (b : Bool). cond {A = ℕ} b 0 (place_of rest node + 1)) (eq-eqb first node same)
place-at (first ∷ rest) (suc place) node is once =
    let later : 1 ≤ times node rest = get-in rest place node is in
    ap (λ (b : Bool). cond {A = ℕ} b 0 (place_of rest node + 1)) (ne_eqb first node (λ e. omega (arith, later, once, times-same node first rest e)))
    ∙ omega (arith, place-at rest place node is (omega (arith, once)))

-- the place at which a search stands: that of its node, or the end
abbrev pub place_found : List ℕ → Option ℕ → ℕ
place_found order None = length order
place_found order (Some node) = place_of order node

-- nothing before this place passes the test
pub record IsSearchTo (test : ℕ → Bool) (order : List ℕ) (at : Option ℕ) : Type 0 where
  pub next : at ≡ slice_get order (place_found order at)
  pub same : find test (drop (place_found order at) order) ≡ find test order

found-place : (order : List ℕ) (place : ℕ) (at : Option ℕ) → slice_get order place ≡ at → place ≤ length order → ((node : ℕ) → times node order ≤ 1)
    → place_found order at ≡ place
found-place order place None is within once = omega (arith, within, get-none order place is)
found-place order place (Some node) is within once = place-at order place node is (once node)

search-at : (test : ℕ → Bool) (order : List ℕ) (place : ℕ) → place ≤ length order → ((node : ℕ) → times node order ≤ 1) → find test (drop place order) ≡ find test order
    → IsSearchTo test order (slice_get order place)
search-at test order place within once same =
    let there : place_found order (slice_get order place) ≡ place = found-place order place (slice_get order place) refl within once in
    record { next = ap (slice_get order) (sym there); same = ap (λ p. find test (drop p order)) there ∙ same }

pub search-first : (test : ℕ → Bool) (order : List ℕ) → ((node : ℕ) → times node order ≤ 1) → IsSearchTo test order (slice_get order 0)
search-first test order once = search-at test order 0 (omega arith) once refl

module _ (test : ℕ → Bool) (order : List ℕ) (node : ℕ) (to : IsSearchTo test order (Some node)) where
  place : ℕ
  place = place_of order node

  pub search-within : place_of order node < length order
  search-within = get-within order (place_of order node) node (sym to.next)

  split : find test (drop (place_of order node) order) ≡ cond (test node) (Some node) (find test (drop (place_of order node + 1) order))
  split =
      ap (find test) (drop_more order (place_of order node) 0 search-within)
      ∙ ap (λ n. cond (test n) (Some n) (find test (drop (place_of order node + 1) order))) (get-is order (place_of order node) node 0 (sym to.next))

  pub search-next : ((other : ℕ) → times other order ≤ 1) → test node ≡ false → IsSearchTo test order (slice_get order (suc (place_of order node)))
  search-next once fails =
      let one : suc (place_of order node) ≡ place_of order node + 1 = omega arith in
      search-at test order (suc (place_of order node)) (omega (arith, search-within)) once
      (ap (λ p. find test (drop p order)) one ∙ sym (split ∙ ap (λ (b : Bool). cond b (Some node) (find test (drop (place_of order node + 1) order))) fails) ∙ to.same)

  pub search-found : test node ≡ true → Some node ≡ find test order
  search-found passes = sym (split ∙ ap (λ (b : Bool). cond b (Some node) (find test (drop (place_of order node + 1) order))) passes) ∙ to.same

  pub search-smaller : ((other : ℕ) → times other order ≤ 1)
      → length order - place_found order (slice_get order (suc (place_of order node))) < length order - place_of order node
  search-smaller once =
      omega (arith, search-within, found-place order (suc (place_of order node)) (slice_get order (suc (place_of order node))) refl (omega (arith, search-within)) once)

pub search-none : (test : ℕ → Bool) (order : List ℕ) → IsSearchTo test order None → None ≡ find test order
search-none test order to = sym (ap (find test) (drop_all (length order) order (omega arith))) ∙ to.same

-- in links of one list each node stands once at most
pub at-most-once : (lists : List (List ℕ)) → length lists ≡ 1 → HasEachOnce lists → (node : ℕ) → times node (list_at lists 0) ≤ 1
at-most-once lists one each_once node =
    let there : times node (list_at lists 0) ≤ times_in node lists = times_in-at node lists 0 (omega (arith, one)) in
    elim (cases_lt node (node_count lists)) as (λ _. times node (list_at lists 0) ≤ 1) [
      | inl low ↦ omega (arith, there, each_once.once node low)
      | inr high ↦ omega (arith, there, each_once.only node high)
    ]

-- a node of the list is one of the nodes
pub search-node : (test : ℕ → Bool) (lists : List (List ℕ)) (node : ℕ) → length lists ≡ 1 → HasEachOnce lists → IsSearchTo test (list_at lists 0) (Some node)
    → node < node_count lists
search-node test lists node one each_once to =
    node-within lists 0 node each_once (omega (arith, one)) (get-in (list_at lists 0) (place_of (list_at lists 0) node) node (sym to.next))

-- the node after it
pub search-link : (test : ℕ → Bool) (lists : List (List ℕ)) (node : ℕ) → length lists ≡ 1 → HasEachOnce lists → IsSearchTo test (list_at lists 0) (Some node)
    → next_in node (list_at lists (list_of lists node)) ≡ slice_get (list_at lists 0) (suc (place_of (list_at lists 0) node))
search-link test lists node one each_once to =
    let there : slice_get (list_at lists 0) (place_of (list_at lists 0) node) ≡ Some node = sym to.next in
    let here : 1 ≤ times node (list_at lists 0) = get-in (list_at lists 0) (place_of (list_at lists 0) node) node there in
    let once : times_in node lists ≡ 1 = each_once.once node (search-node test lists node one each_once to) in
    ap (λ n. next_in node (list_at lists n)) (list_of-in lists 0 node once (omega (arith, one)) here)
    ∙ next-at (list_at lists 0) (place_of (list_at lists 0) node) node there (at-most-once lists one each_once node)

-- a test on numbers, of a node that was read at its place
pub low-is : (priorities : List ℕ) (node index priority : ℕ) → index ≡ node → get_or priorities index 0 < priority → ltb (get_or priorities node 0) priority ≡ true
low-is priorities node index priority same low = elim (cases_Bool (ltb (get_or priorities node 0) priority)) as (λ _. ltb (get_or priorities node 0) priority ≡ true) [
  | inl is ↦ is
  | inr not_is ↦ absurd (omega (arith, low, ap (λ n. get_or priorities n 0) same, ltb-false (get_or priorities node 0) priority not_is))
]

pub high-is : (priorities : List ℕ) (node index priority : ℕ) → index ≡ node → priority ≤ get_or priorities index 0 → ltb (get_or priorities node 0) priority ≡ false
high-is priorities node index priority same high = elim (cases_Bool (ltb (get_or priorities node 0) priority)) as (λ _. ltb (get_or priorities node 0) priority ≡ false) [
  | inl is ↦ absurd (omega (arith, high, ap (λ n. get_or priorities n 0) same, ltb-true (get_or priorities node 0) priority is))
  | inr not_is ↦ not_is
]

-- what isn't missing is there
pub not-none-some : {A : Type 0} (o : Option A) → (IsNone o → ⊥) → IsSome o
not-none-some None missing = absurd (missing refl)
not-none-some (Some a) missing = refl
