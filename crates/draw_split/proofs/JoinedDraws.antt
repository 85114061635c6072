-- The draws that name an order and offsets, a place at a time.
use Rattle.std.proofs.Common.{◌≡◌, ◌≢◌, ℕ, suc, ◌+◌, ◌-◌, ◌==◌, ◌<◌, ◌≤◌, Bool, cond, List, [], ◌∷◌, ◌++◌, length, get_or, take, drop, sum, refl, ap, sym, subst, ◌∙◌, inl, inr, arith}
use Rattle.std.proofs.lemmas.Bool.{cases_eq, eq-eqb, ne_eqb}
use Rattle.std.proofs.lemmas.List.{append_assoc, append-nil, drop_more, drop_all, drop-drop, get_or-drop, nil_from_length}
use Rattle.std.proofs.lemmas.List.Sums.{sum_by-cons}
use Rattle.draw_split.specs.Bag.{pick, offset, less_one}
use Rattle.draw_split.specs.Named.{named_order, named_offsets, Names}
use Rattle.draw_split.specs.Rooms.{Fits, IsInRoom, AreInRooms}
use Rattle.draw_split.specs.Split.{Parts}
use Rattle.draw_split.proofs.Bag.{IsAt, placed, pick-at, offset-at, at-below, only-at}
use Rattle.draw_split.proofs.NamedOrders.{AreGood, after, good, good-none, good-head, good-tail, good-nil, good-cons, draw_list, named_order-cons, named_order-nil, named_offsets-same, named_offsets-other, named_offsets-nil, less_one-same, less_one-other, times-same, times-other}
use Rattle.draw_split.proofs.Rooms.{room-first, room-rest, first-rest}

-- the offsets of each thread, without the first of one
abbrev pub without_first : (ℕ → List ℕ) → ℕ → ℕ → List ℕ
without_first offsets taken thread = cond (taken == thread) (drop 1 (offsets thread)) (offsets thread)

without-same : (offsets : ℕ → List ℕ) (taken thread : ℕ) → taken ≡ thread → without_first offsets taken thread ≡ drop 1 (offsets thread)
without-same offsets taken thread same = ap (λ (b : Bool). cond b (drop 1 (offsets thread)) (offsets thread)) (eq-eqb taken thread same)

without-other : (offsets : ℕ → List ℕ) (taken thread : ℕ) → taken ≢ thread → without_first offsets taken thread ≡ offsets thread
without-other offsets taken thread other = ap (λ (b : Bool). cond b (drop 1 (offsets thread)) (offsets thread)) (ne_eqb taken thread other)

-- the first place of an order, joined with the thread's first offset
abbrev pub first_joined : List ℕ → ℕ → (ℕ → List ℕ) → ℕ
first_joined counts thread offsets = get_or (offsets thread) 0 0 + sum (take thread counts)

pub joined : List ℕ → List ℕ → (ℕ → List ℕ) → List ℕ
joined counts [] offsets = []
joined counts (thread ∷ order) offsets = first_joined counts thread offsets ∷ joined (less_one counts thread) order (without_first offsets thread)

joined-nil : (counts : List ℕ) (offsets : ℕ → List ℕ) → joined counts [] offsets ≡ []
unfolding joined
joined-nil counts offsets = refl

joined-cons : (counts : List ℕ) (thread : ℕ) (order : List ℕ) (offsets : ℕ → List ℕ)
    → joined counts (thread ∷ order) offsets ≡ first_joined counts thread offsets ∷ joined (less_one counts thread) order (without_first offsets thread)
unfolding joined
joined-cons counts thread order offsets = refl

-- the first place of an order that fits has a count, and what is left of the order fits what is left of the counts
pub fits-head : (counts : List ℕ) (thread : ℕ) (order : List ℕ) → Fits counts (thread ∷ order) → 0 < get_or counts thread 0
fits-head counts thread order fits = omega (arith, fits.each thread, times-same thread order thread refl)

pub fits-tail : (counts : List ℕ) (thread : ℕ) (order : List ℕ) → Fits counts (thread ∷ order) → Fits (less_one counts thread) order
fits-tail counts thread order fits = record {
  each = λ other. elim (cases_eq thread other) [
    | inl same ↦
        let P : ℕ → Type 0 = λ t. get_or (less_one counts thread) t 0 + 1 ≡ get_or counts t 0 in
        let fewer : P other = subst P same (less_one-same counts thread (fits-head counts thread order fits)) in
        omega (arith, fits.each other, times-same other order thread same, fewer)
    | inr ne ↦ omega (arith, fits.each other, times-other other order thread ne, less_one-other counts thread other ne)
  ];
}

none-sum : (counts : List ℕ) → ((thread : ℕ) → get_or counts thread 0 ≡ 0) → sum counts ≡ 0
none-sum [] none = refl
none-sum (c ∷ cs) none = omega (arith, sum_by-cons (λ x. x) c cs, none 0, none-sum cs (λ thread. none (suc thread)))

pub fits-nil : (counts : List ℕ) → Fits counts [] → sum counts ≡ 0
fits-nil counts fits = none-sum counts (λ thread. sym (fits.each thread))

-- offsets by thread, each thread's in its room
pub record AreRoomy (counts : List ℕ) (offsets : ℕ → List ℕ) : Type 0 where
  pub each : (thread : ℕ) → IsInRoom (get_or counts thread 0) (offsets thread)

pub roomy-next : (counts : List ℕ) (offsets : ℕ → List ℕ) (taken : ℕ) → AreRoomy counts offsets → 0 < get_or counts taken 0
    → AreRoomy (less_one counts taken) (without_first offsets taken)
roomy-next counts offsets taken rooms some = record {
  each = λ thread. elim (cases_eq taken thread) [
    | inl same ↦
        let P : ℕ → Type 0 = λ t. (get_or (less_one counts taken) t 0 ≡ get_or counts t 0 - 1) × (0 < get_or counts t 0) in
        let fewer : P thread = subst P same (omega (arith, less_one-same counts taken some), some) in
        subst (λ (n : ℕ). IsInRoom n (without_first offsets taken thread)) (sym fewer.0)
        (subst (IsInRoom (get_or counts thread 0 - 1)) (sym (without-same offsets taken thread same)) (room-rest _ _ (rooms.each thread) fewer.1))
    | inr other ↦
        subst (λ (n : ℕ). IsInRoom n (without_first offsets taken thread)) (sym (less_one-other counts taken thread other))
        (subst (IsInRoom (get_or counts thread 0)) (sym (without-other offsets taken thread other)) (rooms.each thread))
  ];
}

-- the joined draws are a draw list that names the order and the offsets
pub record JoinsBack (counts order : List ℕ) (offsets : ℕ → List ℕ) : Type 0 where
  pub good_draws : AreGood counts (joined counts order offsets)
  pub order_back : named_order counts (joined counts order offsets) ≡ order
  pub offsets_back : (thread : ℕ) → named_offsets counts (joined counts order offsets) thread ≡ offsets thread

pub first-at : (counts : List ℕ) (thread : ℕ) (offsets : ℕ → List ℕ) → AreRoomy counts offsets → 0 < get_or counts thread 0
    → IsAt counts (first_joined counts thread offsets) thread (get_or (offsets thread) 0 0)
first-at counts thread offsets rooms some = record { within = room-first _ _ (rooms.each thread) some; there = refl }

pub joins-back : (counts order : List ℕ) (offsets : ℕ → List ℕ) → Fits counts order → AreRoomy counts offsets → JoinsBack counts order offsets
unfolding joined
joins-back counts [] offsets fits rooms = record {
  good_draws = good-nil counts (fits-nil counts fits);
  order_back = named_order-nil counts;
  offsets_back = λ thread.
      named_offsets-nil counts thread
      ∙ sym (nil_from_length (offsets thread) (let room = rooms.each thread in let none = fits.each thread in omega (arith, room.full, none)));
}
joins-back counts (thread ∷ order) offsets fits rooms =
    let some = fits-head counts thread order fits in
    let draw : ℕ = first_joined counts thread offsets in
    let at : IsAt counts draw thread (get_or (offsets thread) 0 0) = first-at counts thread offsets rooms some in
    let rest : List ℕ = joined (less_one counts thread) order (without_first offsets thread) in
    let picked : pick counts draw ≡ thread = pick-at at in
    let put : offset counts draw ≡ get_or (offsets thread) 0 0 = offset-at at in
    let left : after counts draw ≡ less_one counts thread = ap (less_one counts) picked in
    let later = joins-back (less_one counts thread) order (without_first offsets thread) (fits-tail counts thread order fits) (roomy-next counts offsets thread rooms some) in
    record {
      good_draws = good-cons counts draw rest (at-below at) (subst (λ (c : List ℕ). AreGood c rest) (sym left) later.good_draws);
      order_back =
          named_order-cons counts draw rest
          ∙ (λ i. picked i ∷ named_order (left i) rest)
          ∙ ap (λ (l : List ℕ). thread ∷ l) later.order_back;
      offsets_back = λ other. elim (cases_eq thread other) [
        | inl same ↦
            named_offsets-same counts draw rest other (picked ∙ same)
            ∙ (λ i. put i ∷ named_offsets (left i) rest other)
            ∙ ap (λ (l : List ℕ). get_or (offsets thread) 0 0 ∷ l) (later.offsets_back other ∙ without-same offsets thread other same)
            ∙ ap (λ (t : ℕ). get_or (offsets t) 0 0 ∷ drop 1 (offsets other)) same
            ∙ first-rest (offsets other)
            (let P : ℕ → Type 0 = λ t. 0 < get_or counts t 0 in let has : P other = subst P same some in let room = rooms.each other in omega (arith, room.full))
        | inr ne ↦
            named_offsets-other counts draw rest other (λ e. ne (sym picked ∙ e))
            ∙ (λ i. named_offsets (left i) rest other)
            ∙ later.offsets_back other
            ∙ without-other offsets thread other ne
      ];
    }

-- two draw lists that name the same order and the same offsets are one
pub same-draws : (counts draws others : List ℕ) → AreGood counts draws → AreGood counts others
    → named_order counts draws ≡ named_order counts others
    → ((thread : ℕ) → named_offsets counts draws thread ≡ named_offsets counts others thread) → draws ≡ others
same-draws counts [] [] is are order offsets = refl
same-draws counts [] (other ∷ others) is are order offsets = absurd (omega (arith, good-none counts is, good-head counts other others are))
same-draws counts (draw ∷ draws) [] is are order offsets = absurd (omega (arith, good-none counts are, good-head counts draw draws is))
same-draws counts (draw ∷ draws) (other ∷ others) is are order offsets =
    let whole : pick counts draw ∷ named_order (after counts draw) draws ≡ pick counts other ∷ named_order (after counts other) others =
    sym (named_order-cons counts draw draws) ∙ order ∙ named_order-cons counts other others in
    let picked : pick counts draw ≡ pick counts other = cc in
    let later : named_order (after counts draw) draws ≡ named_order (after counts other) others = cc in
    let left : after counts other ≡ after counts draw = ap (less_one counts) (sym picked) in
    let here : offset counts draw ∷ named_offsets (after counts draw) draws (pick counts draw) ≡ offset counts other ∷ named_offsets (after counts other) others (pick counts draw) =
    sym (named_offsets-same counts draw draws (pick counts draw) refl) ∙ offsets (pick counts draw) ∙ named_offsets-same counts other others (pick counts draw) (sym picked) in
    let put : offset counts draw ≡ offset counts other = cc in
    let tail : named_offsets (after counts draw) draws (pick counts draw) ≡ named_offsets (after counts other) others (pick counts draw) = cc in
    let first : draw ≡ other = only-at counts other (pick counts other) (offset counts other) (placed counts other (good-head counts other others are)) draw (good-head counts draw draws is) picked put in
    let rest : draws ≡ others = same-draws (after counts draw) draws others (good-tail counts draw draws is)
    (subst (λ (c : List ℕ). AreGood c others) left (good-tail counts other others are))
    (later ∙ ap (λ (c : List ℕ). named_order c others) left)
    (λ thread. elim (cases_eq (pick counts draw) thread) [
      | inl same ↦
          subst (λ (t : ℕ). named_offsets (after counts draw) draws t ≡ named_offsets (after counts other) others t) same tail
          ∙ ap (λ (c : List ℕ). named_offsets c others thread) left
      | inr ne ↦
          sym (named_offsets-other counts draw draws thread ne) ∙ offsets thread
          ∙ named_offsets-other counts other others thread (λ e. ne (picked ∙ e))
          ∙ ap (λ (c : List ℕ). named_offsets c others thread) left
    ]) in
    λ i. first i ∷ rest i

-- the offsets of a split, by thread
abbrev pub by_thread : List (List ℕ) → ℕ → List ℕ
by_thread offsets thread = get_or offsets thread []

pub roomy : (counts : List ℕ) (offsets : List (List ℕ)) → AreInRooms counts offsets → AreRoomy counts (by_thread offsets)
roomy counts offsets rooms = record { each = rooms }

-- an order that fits and offsets in their rooms are named by the joined draws
pub names-joined : (counts : List ℕ) (split : Parts) → Fits counts split.order → AreInRooms counts split.offsets
    → Names counts (joined counts split.order (by_thread split.offsets)) split
names-joined counts split fits rooms =
    let back = joins-back counts split.order (by_thread split.offsets) fits (roomy counts split.offsets rooms) in
    record {
      list = draw_list counts (joined counts split.order (by_thread split.offsets)) back.good_draws;
      order_named = sym back.order_back;
      offsets_named = λ thread. sym (back.offsets_back thread);
    }

pub names-one : (counts draws others : List ℕ) (split : Parts) → Names counts draws split → Names counts others split → draws ≡ others
names-one counts draws others split is are =
    same-draws counts draws others (good counts draws is.list) (good counts others are.list) (sym is.order_named ∙ are.order_named)
    (λ thread. sym (is.offsets_named thread) ∙ are.offsets_named thread)

-- the offsets of a thread that the places so far have not used
abbrev pub unused : List ℕ → List ℕ → List (List ℕ) → ℕ → List ℕ
unused counts left offsets thread = drop (get_or counts thread 0 - get_or left thread 0) (get_or offsets thread [])

-- the draws of the first `index` places are joined, and leave `left`
pub record AreJoined (counts left order : List ℕ) (offsets : List (List ℕ)) (draws : List ℕ) (index : ℕ) : Type 0 where
  pub so_far : draws ++ joined left (drop index order) (unused counts left offsets) ≡ joined counts order (by_thread offsets)
  pub fits : Fits left (drop index order)
  pub rooms : AreRoomy left (unused counts left offsets)
  pub fewer : (thread : ℕ) → get_or left thread 0 ≤ get_or counts thread 0

unused-all : (counts : List ℕ) (offsets : List (List ℕ)) (thread : ℕ) → unused counts counts offsets thread ≡ by_thread offsets thread
unused-all counts offsets thread = let none : get_or counts thread 0 - get_or counts thread 0 ≡ 0 = omega arith in ap (λ n. drop n (get_or offsets thread [])) none

-- nothing is joined yet
pub join-none : (counts left order : List ℕ) (offsets : List (List ℕ)) (draws : List ℕ) → Fits counts order → AreInRooms counts offsets → left ≡ counts → draws ≡ []
    → AreJoined counts left order offsets draws 0
join-none counts left order offsets draws fits rooms same none =
    subst (λ (l : List ℕ). AreJoined counts l order offsets draws 0) (sym same) record {
      so_far = λ i. none i ++ joined counts order (λ t. unused-all counts offsets t i);
      fits = fits;
      rooms = record { each = λ thread. subst (IsInRoom (get_or counts thread 0)) (sym (unused-all counts offsets thread)) (rooms thread) };
      fewer = λ thread. omega arith;
    }

cut-fits : (left order : List ℕ) (index : ℕ) → Fits left (drop index order) → index < length order → Fits left (get_or order index 0 ∷ drop (index + 1) order)
cut-fits left order index fits lt = subst (Fits left) (drop_more order index 0 lt) fits

-- the next thread has a count
pub next-counted : (counts left order : List ℕ) (offsets : List (List ℕ)) (draws : List ℕ) (index : ℕ) → AreJoined counts left order offsets draws index → index < length order
    → 0 < get_or left (get_or order index 0) 0
next-counted counts left order offsets draws index is lt =
    fits-head left (get_or order index 0) (drop (index + 1) order) (cut-fits left order index is.fits lt)

-- the next offset of a thread, after those that are used
abbrev pub next_offset : List ℕ → List ℕ → List (List ℕ) → ℕ → ℕ
next_offset counts left offsets thread = get_or (get_or offsets thread []) (get_or counts thread 0 - get_or left thread 0) 0

next-unused : (counts left : List ℕ) (offsets : List (List ℕ)) (thread : ℕ) → get_or (unused counts left offsets thread) 0 0 ≡ next_offset counts left offsets thread
next-unused counts left offsets thread =
    let n : ℕ = get_or counts thread 0 - get_or left thread 0 in
    let e : n + 0 ≡ n = omega arith in
    get_or-drop n (get_or offsets thread []) 0 0 ∙ ap (λ k. get_or (get_or offsets thread []) k 0) e

-- it is below what is left of the thread's count
pub next-in-room : (counts left order : List ℕ) (offsets : List (List ℕ)) (draws : List ℕ) (index : ℕ) → AreJoined counts left order offsets draws index → index < length order
    → next_offset counts left offsets (get_or order index 0) < get_or left (get_or order index 0) 0
next-in-room counts left order offsets draws index is lt =
    let thread : ℕ = get_or order index 0 in
    omega (arith, room-first _ _ (is.rooms.each thread) (next-counted counts left order offsets draws index is lt), next-unused counts left offsets thread)

unused-next : (counts left : List ℕ) (offsets : List (List ℕ)) (taken : ℕ) → 0 < get_or left taken 0 → get_or left taken 0 ≤ get_or counts taken 0
    → (thread : ℕ) → unused counts (less_one left taken) offsets thread ≡ without_first (unused counts left offsets) taken thread
unused-next counts left offsets taken some fewer thread = elim (cases_eq taken thread) [
  | inl same ↦
      let P : ℕ → Type 0 = λ t. get_or counts t 0 - get_or (less_one left taken) t 0 ≡ get_or counts t 0 - get_or left t 0 + 1 in
      let more : P thread = subst P same (omega (arith, less_one-same left taken some)) in
      ap (λ n. drop n (get_or offsets thread [])) more
      ∙ sym (drop-drop 1 (get_or counts thread 0 - get_or left thread 0) (get_or offsets thread []))
      ∙ sym (without-same (unused counts left offsets) taken thread same)
  | inr other ↦
      ap (λ n. drop (get_or counts thread 0 - n) (get_or offsets thread [])) (less_one-other left taken thread other)
      ∙ sym (without-other (unused counts left offsets) taken thread other)
]

fewer-next : (counts left : List ℕ) (taken : ℕ) → 0 < get_or left taken 0 → ((thread : ℕ) → get_or left thread 0 ≤ get_or counts thread 0)
    → (thread : ℕ) → get_or (less_one left taken) thread 0 ≤ get_or counts thread 0
fewer-next counts left taken some fewer thread = elim (cases_eq taken thread) [
  | inl same ↦
      let P : ℕ → Type 0 = λ t. get_or (less_one left taken) t 0 ≤ get_or counts t 0 in
      subst P same (omega (arith, less_one-same left taken some, fewer taken))
  | inr other ↦ omega (arith, less_one-other left taken thread other, fewer thread)
]

-- one place more is joined
pub join-next : (counts left order : List ℕ) (offsets : List (List ℕ)) (draws : List ℕ) (index : ℕ) → AreJoined counts left order offsets draws index → index < length order
    → (draw : ℕ) → draw < sum left → pick left draw ≡ get_or order index 0 → offset left draw ≡ next_offset counts left offsets (get_or order index 0)
    → (fewer more : List ℕ) → fewer ≡ less_one left (get_or order index 0) → more ≡ draws ++ draw ∷ []
    → AreJoined counts fewer order offsets more (index + 1)
join-next counts left order offsets draws index is lt draw drawn picked put fewer more less pushed =
    let thread : ℕ = get_or order index 0 in
    let rest : List ℕ = drop (index + 1) order in
    let some = next-counted counts left order offsets draws index is lt in
    let cut : drop index order ≡ thread ∷ rest = drop_more order index 0 lt in
    let at = first-at left thread (unused counts left offsets) is.rooms some in
    let same : draw ≡ first_joined left thread (unused counts left offsets) =
    only-at left _ thread _ at draw drawn picked (put ∙ sym (next-unused counts left offsets thread)) in
    let families : (t : ℕ) → unused counts (less_one left thread) offsets t ≡ without_first (unused counts left offsets) thread t =
    unused-next counts left offsets thread some (is.fewer thread) in
    subst (λ (l : List ℕ). AreJoined counts l order offsets more (index + 1)) (sym less) record {
      so_far =
          (λ i. pushed i ++ joined (less_one left thread) rest (λ t. families t i))
          ∙ append_assoc draws (draw ∷ []) (joined (less_one left thread) rest (without_first (unused counts left offsets) thread))
          ∙ ap (λ (d : ℕ). draws ++ (d ∷ joined (less_one left thread) rest (without_first (unused counts left offsets) thread))) same
          ∙ ap (λ (l : List ℕ). draws ++ l) (sym (joined-cons left thread rest (unused counts left offsets)))
          ∙ ap (λ (l : List ℕ). draws ++ joined left l (unused counts left offsets)) (sym cut)
          ∙ is.so_far;
      fits = fits-tail left thread rest (cut-fits left order index is.fits lt);
      rooms = record {
        each = λ t. subst (IsInRoom (get_or (less_one left thread) t 0)) (sym (families t)) ((roomy-next left (unused counts left offsets) thread is.rooms some).each t);
      };
      fewer = fewer-next counts left thread some is.fewer;
    }

-- all places are joined
pub join-all : (counts left order : List ℕ) (offsets : List (List ℕ)) (draws : List ℕ) (index : ℕ) → AreJoined counts left order offsets draws index → length order ≤ index
    → draws ≡ joined counts order (by_thread offsets)
join-all counts left order offsets draws index is past =
    sym (append-nil draws)
    ∙ ap (λ (l : List ℕ). draws ++ l) (sym (ap (λ (l : List ℕ). joined left l (unused counts left offsets)) (drop_all index order past) ∙ joined-nil left (unused counts left offsets)))
    ∙ is.so_far

pub names-all : (counts left : List ℕ) (split : Parts) (draws : List ℕ) (index : ℕ) → AreJoined counts left split.order split.offsets draws index → length split.order ≤ index
    → Fits counts split.order → AreInRooms counts split.offsets → Names counts draws split
names-all counts left split draws index is past fits rooms =
    subst (λ (l : List ℕ). Names counts l split) (sym (join-all counts left split.order split.offsets draws index is past)) (names-joined counts split fits rooms)
