-- The order and the offsets that draws name, a draw at a time.
use Rattle.std.proofs.Common.{◌≡◌, ◌≢◌, ℕ, zero, suc, ◌+◌, ◌-◌, ◌==◌, ◌<◌, ◌≤◌, Bool, cond, List, [], ◌∷◌, ◌++◌, length, get_or, set, drop, sum, refl, ap, sym, subst, ◌∙◌, inl, inr, arith}
use Rattle.std.proofs.lemmas.Bool.{cases_lt, cases_eq, eq-eqb, ne_eqb}
use Rattle.std.proofs.lemmas.List.{append_assoc, append-nil, drop_more, drop_all, get_or_past, get_or-set_same, get_or-set_other}
use Rattle.std.proofs.lemmas.List.Sums.{sum_by-cons, get_or-le-sum_by}
use Rattle.std.specs.List.{count_by}
use Rattle.draw_split.specs.Bag.{pick, offset, less_one}
use Rattle.draw_split.specs.DrawList.{IsDrawList}
use Rattle.draw_split.specs.Named.{named_order, named_offsets, Names}
use Rattle.draw_split.specs.Rooms.{Fits, IsInRoom, AreInRooms}
use Rattle.draw_split.specs.Split.{Parts}
use Rattle.draw_split.proofs.Bag.{placed, listed, sum-less_one}
use Rattle.draw_split.proofs.Rooms.{room-nil, room-cons}

-- the counts that a draw leaves
abbrev pub after : List ℕ → ℕ → List ℕ
after counts draw = less_one counts (pick counts draw)

pub named_order-cons : (counts : List ℕ) (draw : ℕ) (draws : List ℕ) → named_order counts (draw ∷ draws) ≡ pick counts draw ∷ named_order (after counts draw) draws
unfolding named_order
named_order-cons counts draw draws = refl

pub named_order-nil : (counts : List ℕ) → named_order counts [] ≡ []
unfolding named_order
named_order-nil counts = refl

pub named_offsets-same : (counts : List ℕ) (draw : ℕ) (draws : List ℕ) (thread : ℕ) → pick counts draw ≡ thread
    → named_offsets counts (draw ∷ draws) thread ≡ offset counts draw ∷ named_offsets (after counts draw) draws thread
unfolding named_offsets
named_offsets-same counts draw draws thread same =
    ap (λ (b : Bool). cond b (offset counts draw ∷ named_offsets (after counts draw) draws thread) (named_offsets (after counts draw) draws thread)) (eq-eqb _ _ same)

pub named_offsets-other : (counts : List ℕ) (draw : ℕ) (draws : List ℕ) (thread : ℕ) → pick counts draw ≢ thread
    → named_offsets counts (draw ∷ draws) thread ≡ named_offsets (after counts draw) draws thread
unfolding named_offsets
named_offsets-other counts draw draws thread other =
    ap (λ (b : Bool). cond b (offset counts draw ∷ named_offsets (after counts draw) draws thread) (named_offsets (after counts draw) draws thread)) (ne_eqb _ _ other)

pub named_offsets-nil : (counts : List ℕ) (thread : ℕ) → named_offsets counts [] thread ≡ []
unfolding named_offsets
named_offsets-nil counts thread = refl

-- the count of a thread after a place of it is taken, and of the others
pub less_one-same : (counts : List ℕ) (thread : ℕ) → 0 < get_or counts thread 0 → get_or (less_one counts thread) thread 0 + 1 ≡ get_or counts thread 0
unfolding less_one
less_one-same counts thread some =
    omega (arith, get_or-set_same counts thread (get_or counts thread 0 - 1) 0 (listed counts thread 0 some))

pub less_one-other : (counts : List ℕ) (taken thread : ℕ) → taken ≢ thread → get_or (less_one counts taken) thread 0 ≡ get_or counts thread 0
unfolding less_one
less_one-other counts taken thread other =
    get_or-set_other counts taken thread (get_or counts taken 0 - 1) 0 (λ e. other (sym e))

-- a draw list, a draw at a time
pub AreGood : List ℕ → List ℕ → Type 0
AreGood counts [] = sum counts ≡ 0
AreGood counts (draw ∷ draws) = (draw < sum counts) × AreGood (after counts draw) draws

pub good-none : (counts : List ℕ) → AreGood counts [] → sum counts ≡ 0
unfolding AreGood
good-none counts good = good

pub good-head : (counts : List ℕ) (draw : ℕ) (draws : List ℕ) → AreGood counts (draw ∷ draws) → draw < sum counts
unfolding AreGood
good-head counts draw draws good = good.0

pub good-tail : (counts : List ℕ) (draw : ℕ) (draws : List ℕ) → AreGood counts (draw ∷ draws) → AreGood (after counts draw) draws
unfolding AreGood
good-tail counts draw draws good = good.1

pub good-nil : (counts : List ℕ) → sum counts ≡ 0 → AreGood counts []
unfolding AreGood
good-nil counts none = none

pub good-cons : (counts : List ℕ) (draw : ℕ) (draws : List ℕ) → draw < sum counts → AreGood (after counts draw) draws → AreGood counts (draw ∷ draws)
unfolding AreGood
good-cons counts draw draws first later = (first, later)

-- the sum after a draw
pub sum-after : (counts : List ℕ) (draw : ℕ) → draw < sum counts → sum (after counts draw) + 1 ≡ sum counts
sum-after counts draw lt = let at = placed counts draw lt in let some = at.within in sum-less_one counts (pick counts draw) (omega arith)

pub good : (counts draws : List ℕ) → IsDrawList counts draws → AreGood counts draws
good counts [] is = good-nil counts (sym is.full)
good counts (draw ∷ draws) is =
    let first : draw < sum counts = omega (arith, is.each 0 (omega arith)) in
    let less = sum-after counts draw first in
    let full = is.full in
    good-cons counts draw draws first (good (after counts draw) draws record {
      full = omega arith;
      each = λ k lt. omega (arith, is.each (suc k) (omega arith));
    })

list-each : (counts : List ℕ) (draw : ℕ) (draws : List ℕ) → draw < sum counts → IsDrawList (after counts draw) draws
    → (k : ℕ) → k < length (draw ∷ draws) → get_or (draw ∷ draws) k 0 + k < sum counts
list-each counts draw draws first later zero lt = omega arith
list-each counts draw draws first later (suc k) lt = omega (arith, later.each k (omega arith), sum-after counts draw first)

pub draw_list : (counts draws : List ℕ) → AreGood counts draws → IsDrawList counts draws
draw_list counts [] is = record { full = sym (good-none counts is); each = λ k lt. absurd (omega arith) }
draw_list counts (draw ∷ draws) is =
    let first = good-head counts draw draws is in
    let later = draw_list (after counts draw) draws (good-tail counts draw draws is) in
    record {
      full = omega (arith, later.full, sum-after counts draw first);
      each = list-each counts draw draws first later;
    }

-- no count is above the sum
pub none-left : (counts : List ℕ) (thread : ℕ) → sum counts ≡ 0 → get_or counts thread 0 ≡ 0
none-left counts thread none = elim (cases_lt thread (length counts)) [
  | inl below ↦ omega (arith, get_or-le-sum_by (λ x. x) counts thread 0 below)
  | inr past ↦ get_or_past counts thread 0 (omega arith)
]

-- how often a thread stands in an order, a place at a time
pub times-same : (thread : ℕ) (order : List ℕ) (first : ℕ) → first ≡ thread
    → count_by (λ other. other == thread) (first ∷ order) ≡ 1 + count_by (λ other. other == thread) order
times-same thread order first same =
    sum_by-cons (λ other. cond (other == thread) 1 0) first order
    ∙ ap (λ (b : Bool). cond b 1 0 + count_by (λ other. other == thread) order) (eq-eqb first thread same)

pub times-other : (thread : ℕ) (order : List ℕ) (first : ℕ) → first ≢ thread
    → count_by (λ other. other == thread) (first ∷ order) ≡ count_by (λ other. other == thread) order
times-other thread order first other =
    sum_by-cons (λ other. cond (other == thread) 1 0) first order
    ∙ ap (λ (b : Bool). cond b 1 0 + count_by (λ other. other == thread) order) (ne_eqb first thread other)
    ∙ omega arith

-- the order of a draw list holds each thread as often as it is counted
named-times : (counts draws : List ℕ) → AreGood counts draws → (thread : ℕ) → count_by (λ other. other == thread) (named_order counts draws) ≡ get_or counts thread 0
named-times counts [] is thread =
    ap (count_by (λ other. other == thread)) (named_order-nil counts) ∙ sym (none-left counts thread (good-none counts is))
named-times counts (draw ∷ draws) is thread =
    let at = placed counts draw (good-head counts draw draws is) in
    let some : 0 < get_or counts (pick counts draw) 0 = omega (arith, at.within) in
    let later = named-times (after counts draw) draws (good-tail counts draw draws is) thread in
    let step = ap (count_by (λ other. other == thread)) (named_order-cons counts draw draws) in
    elim (cases_eq (pick counts draw) thread) [
      | inl same ↦
          step ∙ times-same thread (named_order (after counts draw) draws) (pick counts draw) same
          ∙ ap (λ n. 1 + n) later
          ∙ subst (λ (t : ℕ). 1 + get_or (after counts draw) t 0 ≡ get_or counts t 0) same (omega (arith, less_one-same counts (pick counts draw) some))
      | inr other ↦
          step ∙ times-other thread (named_order (after counts draw) draws) (pick counts draw) other ∙ later ∙ less_one-other counts (pick counts draw) thread other
    ]

pub named-fits : (counts draws : List ℕ) → AreGood counts draws → Fits counts (named_order counts draws)
named-fits counts draws is = record { each = named-times counts draws is }

-- the offsets of a draw list are in their rooms
pub named-room : (counts draws : List ℕ) → AreGood counts draws → (thread : ℕ) → IsInRoom (get_or counts thread 0) (named_offsets counts draws thread)
named-room counts [] is thread =
    subst (IsInRoom (get_or counts thread 0)) (sym (named_offsets-nil counts thread)) (room-nil _ (none-left counts thread (good-none counts is)))
named-room counts (draw ∷ draws) is thread =
    let at = placed counts draw (good-head counts draw draws is) in
    let some : 0 < get_or counts (pick counts draw) 0 = omega (arith, at.within) in
    let later = named-room (after counts draw) draws (good-tail counts draw draws is) thread in
    elim (cases_eq (pick counts draw) thread) [
      | inl same ↦
          let P : ℕ → Type 0 = λ t. offset counts draw < get_or counts t 0 in
          let Q : ℕ → Type 0 = λ t. get_or (after counts draw) t 0 ≡ get_or counts t 0 - 1 in
          let fewer : Q thread = subst Q same (omega (arith, less_one-same counts (pick counts draw) some)) in
          subst (IsInRoom (get_or counts thread 0)) (sym (named_offsets-same counts draw draws thread same))
          (room-cons _ _ _ (subst P same at.within) (subst (λ (n : ℕ). IsInRoom n (named_offsets (after counts draw) draws thread)) fewer later))
      | inr other ↦
          subst (IsInRoom (get_or counts thread 0)) (sym (named_offsets-other counts draw draws thread other))
          (subst (λ (n : ℕ). IsInRoom n (named_offsets (after counts draw) draws thread)) (less_one-other counts (pick counts draw) thread other) later)
    ]

-- the order has as many places as there are draws
length-named_order : (counts draws : List ℕ) → length (named_order counts draws) ≡ length draws
length-named_order counts [] = ap length (named_order-nil counts)
length-named_order counts (draw ∷ draws) =
    ap length (named_order-cons counts draw draws) ∙ ap suc (length-named_order (after counts draw) draws)

pub names-long : (counts draws : List ℕ) (split : Parts) → Names counts draws split → length split.order ≡ length draws
names-long counts draws split names = ap length names.order_named ∙ length-named_order counts draws

-- what draws name is an order that fits, and offsets in their rooms
pub names-fits : (counts draws : List ℕ) (split : Parts) → Names counts draws split → Fits counts split.order
names-fits counts draws split names = subst (Fits counts) (sym names.order_named) (named-fits counts draws (good counts draws names.list))

pub names-rooms : (counts draws : List ℕ) (split : Parts) → Names counts draws split → AreInRooms counts split.offsets
names-rooms counts draws split names thread =
    subst (IsInRoom (get_or counts thread 0)) (sym (names.offsets_named thread)) (named-room counts draws (good counts draws names.list) thread)

-- the first `index` draws name what is split so far, and leave `left`
pub record AreSplit (counts left draws : List ℕ) (split : Parts) (index : ℕ) : Type 0 where
  pub order_so_far : split.order ++ named_order left (drop index draws) ≡ named_order counts draws
  pub offsets_so_far : (thread : ℕ) → get_or split.offsets thread [] ++ named_offsets left (drop index draws) thread ≡ named_offsets counts draws thread
  pub left_over : sum left + index ≡ length draws
  pub list : IsDrawList counts draws

-- the next draw is below what is left
pub next-drawn : (counts left draws : List ℕ) (split : Parts) (index : ℕ) → AreSplit counts left draws split index → index < length draws → get_or draws index 0 < sum left
next-drawn counts left draws split index is lt = omega (arith, is.list.each index lt, is.list.full, is.left_over)

pub next-thread : (counts left draws : List ℕ) (split : Parts) (index : ℕ) → AreSplit counts left draws split index → index < length draws
    → 0 < get_or left (pick left (get_or draws index 0)) 0
next-thread counts left draws split index is lt =
    let at = placed left (get_or draws index 0) (next-drawn counts left draws split index is lt) in omega (arith, at.within)

pub next-few : (counts left draws : List ℕ) (split : Parts) (index : ℕ) → AreSplit counts left draws split index → index < length draws
    → pick left (get_or draws index 0) < length left
next-few counts left draws split index is lt = listed left (pick left (get_or draws index 0)) 0 (next-thread counts left draws split index is lt)

-- a place of a thread, pushed to its list
abbrev pub pushed : List (List ℕ) → ℕ → ℕ → List (List ℕ)
pushed offsets thread offset = set offsets thread (get_or offsets thread [] ++ offset ∷ [])

pub pushed-next : (counts left draws : List ℕ) (split : Parts) (index : ℕ) → AreSplit counts left draws split index → index < length draws
    → pick left (get_or draws index 0) < length split.offsets → (thread : ℕ)
    → get_or (pushed split.offsets (pick left (get_or draws index 0)) (offset left (get_or draws index 0))) thread []
    ++ named_offsets (after left (get_or draws index 0)) (drop (index + 1) draws) thread ≡ named_offsets counts draws thread
pushed-next counts left draws split index is lt few thread =
    let draw : ℕ = get_or draws index 0 in
    let old = split.offsets in
    let rest = drop (index + 1) draws in
    let cut : drop index draws ≡ draw ∷ rest = drop_more draws index 0 lt in
    let so_far = ap (λ (l : List ℕ). get_or old thread [] ++ named_offsets left l thread) (sym cut) ∙ is.offsets_so_far thread in
    elim (cases_eq (pick left draw) thread) [
      | inl same ↦
          let here : get_or (pushed old (pick left draw) (offset left draw)) thread [] ≡ get_or old thread [] ++ offset left draw ∷ [] =
          subst (λ (t : ℕ). get_or (pushed old (pick left draw) (offset left draw)) t [] ≡ get_or old t [] ++ offset left draw ∷ []) same
          (get_or-set_same old (pick left draw) (get_or old (pick left draw) [] ++ offset left draw ∷ []) [] few) in
          ap (λ (l : List ℕ). l ++ named_offsets (after left draw) rest thread) here
          ∙ append_assoc (get_or old thread []) (offset left draw ∷ []) (named_offsets (after left draw) rest thread)
          ∙ ap (λ (l : List ℕ). get_or old thread [] ++ l) (sym (named_offsets-same left draw rest thread same))
          ∙ so_far
      | inr other ↦
          ap (λ (l : List ℕ). l ++ named_offsets (after left draw) rest thread)
          (get_or-set_other old (pick left draw) thread (get_or old (pick left draw) [] ++ offset left draw ∷ []) [] (λ e. other (sym e)))
          ∙ ap (λ (l : List ℕ). get_or old thread [] ++ l) (sym (named_offsets-other left draw rest thread other))
          ∙ so_far
    ]

-- one draw more is split
pub split-next : (counts left draws : List ℕ) (split : Parts) (index : ℕ) → AreSplit counts left draws split index → index < length draws
    → pick left (get_or draws index 0) < length split.offsets
    → (thread at : ℕ) → thread ≡ pick left (get_or draws index 0) → at ≡ offset left (get_or draws index 0)
    → (fewer : List ℕ) → fewer ≡ less_one left thread
    → (next : Parts) → next.order ≡ split.order ++ thread ∷ [] → next.offsets ≡ pushed split.offsets thread at
    → AreSplit counts fewer draws next (index + 1)
split-next counts left draws split index is lt few thread at picked put fewer less next order offsets =
    let draw : ℕ = get_or draws index 0 in
    let left_is : fewer ≡ after left draw = less ∙ ap (less_one left) picked in
    let next_is : next.offsets ≡ pushed split.offsets (pick left draw) (offset left draw) = offsets ∙ (λ i. pushed split.offsets (picked i) (put i)) in
    let rest = drop (index + 1) draws in
    let cut : drop index draws ≡ draw ∷ rest = drop_more draws index 0 lt in
    record {
      order_so_far =
          (λ i. order i ++ named_order (left_is i) rest)
          ∙ append_assoc split.order (thread ∷ []) (named_order (after left draw) rest)
          ∙ ap (λ (t : ℕ). split.order ++ (t ∷ named_order (after left draw) rest)) picked
          ∙ ap (λ (l : List ℕ). split.order ++ l) (sym (named_order-cons left draw rest))
          ∙ ap (λ (l : List ℕ). split.order ++ named_order left l) (sym cut)
          ∙ is.order_so_far;
      offsets_so_far = λ t.
          (λ i. get_or (next_is i) t [] ++ named_offsets (left_is i) rest t) ∙ pushed-next counts left draws split index is lt few t;
      left_over = omega (arith, ap sum left_is, sum-after left draw (next-drawn counts left draws split index is lt), is.left_over);
      list = is.list;
    }

-- all draws are split
pub split-all : (counts left draws : List ℕ) (split : Parts) (index : ℕ) → AreSplit counts left draws split index → length draws ≤ index → Names counts draws split
split-all counts left draws split index is past =
    let cut : drop index draws ≡ [] = drop_all index draws past in
    record {
      list = is.list;
      order_named =
          sym (append-nil split.order)
          ∙ ap (λ (l : List ℕ). split.order ++ l) (sym (ap (named_order left) cut ∙ named_order-nil left))
          ∙ is.order_so_far;
      offsets_named = λ thread.
          sym (append-nil (get_or split.offsets thread []))
          ∙ ap (λ (l : List ℕ). get_or split.offsets thread [] ++ l) (sym (ap (λ (l : List ℕ). named_offsets left l thread) cut ∙ named_offsets-nil left thread))
          ∙ is.offsets_so_far thread;
    }

-- nothing is split yet
pub split-none : (counts left draws : List ℕ) (split : Parts) → IsDrawList left draws → left ≡ counts → split.order ≡ [] → ((thread : ℕ) → get_or split.offsets thread [] ≡ [])
    → AreSplit counts left draws split 0
split-none counts left draws split list same order offsets = record {
  order_so_far = λ i. order i ++ named_order (same i) draws;
  offsets_so_far = λ thread. (λ i. offsets thread i ++ named_offsets (same i) draws thread);
  left_over = omega (arith, list.full);
  list = subst (λ (l : List ℕ). IsDrawList l draws) same list;
}
