-- The first priorities fall along the drawn order.
use Rattle.std.proofs.Common.{◌≡◌, ◌≢◌, ℕ, zero, suc, ◌+◌, ◌-◌, ◌<◌, ◌≤◌, inl, inr, Bool, cond, List, [], ◌∷◌, ◌++◌, length, drop, map, get_or, refl, ap, sym, ◌∙◌, arith}
use Rattle.std.proofs.lemmas.Bool.{cases_lt, cases_eq, eq-eqb, ne_eqb}
use Rattle.std.proofs.lemmas.List.{append_assoc, drop_more, drop_all, get_or_past, length_push}
use Rattle.std.specs.List.{range_with_len}
use Rattle.frame_links.specs.Lists.{times}
use Rattle.frame_links.proofs.Times.{times-same, times-other, times-append}
use Rattle.walk_rules.specs.Pct.{place_of}
use Rattle.pct_draws.specs.Order.{IsOrder}
use Rattle.walk_rules.specs.Ranks.{IsFalling}

-- ---- the place of a thread

place-first : (first thread : ℕ) (rest : List ℕ) → first ≡ thread → place_of (first ∷ rest) thread ≡ 0
unfolding place_of
place-first first thread rest same = ap (λ (b : Bool). cond {A = ℕ} b 0 (place_of rest thread + 1)) (eq-eqb first thread same)

place-rest : (first thread : ℕ) (rest : List ℕ) → first ≢ thread → place_of (first ∷ rest) thread ≡ place_of rest thread + 1
unfolding place_of
place-rest first thread rest differ = ap (λ (b : Bool). cond {A = ℕ} b 0 (place_of rest thread + 1)) (ne_eqb first thread differ)

place-nil : (thread : ℕ) → place_of [] thread ≡ 0
unfolding place_of
place-nil thread = refl

place-most : (order : List ℕ) (thread : ℕ) → place_of order thread ≤ length order
place-most [] thread = omega (arith, place-nil thread)
place-most (first ∷ rest) thread = elim (cases_eq first thread) as (λ _. place_of (first ∷ rest) thread ≤ length (first ∷ rest)) [
  | inl same ↦ omega (arith, place-first first thread rest same)
  | inr differ ↦ omega (arith, place-rest first thread rest differ, place-most rest thread)
]

place-past : (prefix back : List ℕ) (thread : ℕ) → times thread prefix ≡ 0 → place_of (prefix ++ back) thread ≡ length prefix + place_of back thread
place-past [] back thread none = omega arith
place-past (first ∷ rest) back thread none =
    let differ : first ≢ thread = λ e. omega (arith, none, times-same thread first rest e) in
    place-rest first thread (rest ++ back) differ ∙ omega (arith, place-past rest back thread (omega (arith, none, times-other thread first rest differ)))

-- going over an order until the thread comes
pub place-here : (order : List ℕ) (place thread : ℕ) → place < length order → get_or order place 0 ≡ thread
    → place + place_of (drop place order) thread ≡ place_of order thread → place ≡ place_of order thread
place-here order place thread lt same is =
    omega (arith, is, ap (λ l. place_of l thread) (drop_more order place 0 lt), place-first (get_or order place 0) thread (drop (place + 1) order) same)

pub place-later : (order : List ℕ) (place thread : ℕ) → place < length order → get_or order place 0 ≢ thread
    → place + place_of (drop place order) thread ≡ place_of order thread
    → place + 1 + place_of (drop (place + 1) order) thread ≡ place_of order thread
place-later order place thread lt differ is =
    omega (arith, is, ap (λ l. place_of l thread) (drop_more order place 0 lt), place-rest (get_or order place 0) thread (drop (place + 1) order) differ)

pub place-end : (order : List ℕ) (place thread : ℕ) → length order ≤ place → place ≤ length order
    → place + place_of (drop place order) thread ≡ place_of order thread → length order ≡ place_of order thread
place-end order place thread past most is =
    omega (arith, past, most, is, ap (λ l. place_of l thread) (drop_all place order past), place-nil thread)

-- ---- numbers that are pushed one after another

mapped-more : (f : ℕ → ℕ) (start n : ℕ) → map f (range_with_len start (suc n)) ≡ map f (range_with_len start n) ++ f (start + n) ∷ []
mapped-more f start zero = let same : start ≡ start + 0 = omega arith in ap (λ s. f s ∷ []) same
mapped-more f start (suc n) =
    let same : start + 1 + n ≡ start + suc n = omega arith in
    ap (λ l. f start ∷ l) (mapped-more f (start + 1) n) ∙ ap (λ s. f start ∷ (map f (range_with_len (start + 1) n) ++ f s ∷ [])) same

pub drawn-more : (f : ℕ → ℕ) (items now : List ℕ) (n value : ℕ) → items ≡ map f (range_with_len 0 n) → length items ≡ n → now ≡ items ++ value ∷ [] → value ≡ f n
    → (now ≡ map f (range_with_len 0 (n + 1))) × (length now ≡ n + 1)
drawn-more f items now n value is long more value_is =
    let one : suc n ≡ n + 1 = omega arith in
    let zero_more : 0 + n ≡ n = omega arith in (
      more ∙ (λ i. is i ++ value_is i ∷ []) ∙ ap (λ k. map f (range_with_len 0 n) ++ f k ∷ []) (sym zero_more) ∙ sym (mapped-more f 0 n)
          ∙ ap (λ k. map f (range_with_len 0 k)) one,
      omega (arith, long, ap length more, length_push items value),
    )

pub mapped-at : (f : ℕ → ℕ) (start n k : ℕ) → k < n → get_or (map f (range_with_len start n)) k 0 ≡ f (start + k)
mapped-at f start zero k lt = absurd (omega (arith, lt))
mapped-at f start (suc n) zero lt = let same : start ≡ start + 0 = omega arith in ap f same
mapped-at f start (suc n) (suc k) lt = let same : start + 1 + k ≡ start + suc k = omega arith in mapped-at f (start + 1) n k (omega (arith, lt)) ∙ ap f same

pub length-mapped : (f : ℕ → ℕ) (start n : ℕ) → length (map f (range_with_len start n)) ≡ n
length-mapped f start zero = refl
length-mapped f start (suc n) = ap suc (length-mapped f (start + 1) n)

-- ---- the first priorities

abbrev pub priorities_from : ℕ → List ℕ → List ℕ
priorities_from top order = map (λ thread. top - place_of order thread) (range_with_len 0 (length order))

first-at : (top : ℕ) (order : List ℕ) (thread : ℕ) → thread < length order → get_or (priorities_from top order) thread 0 ≡ top - place_of order thread
first-at top order thread lt = let same : 0 + thread ≡ thread = omega arith in mapped-at (λ t. top - place_of order t) 0 (length order) thread lt
    ∙ ap (λ t. top - place_of order t) same

ordered-low : (order : List ℕ) (thread : ℕ) → IsOrder (length order) order → 1 ≤ times thread order → thread < length order
ordered-low order thread is there = elim (cases_lt thread (length order)) as (λ _. thread < length order)
    [ inl low ↦ low | inr high ↦ absurd (omega (arith, there, is.only thread high)) ]

falling-from : (top : ℕ) (order prefix back : List ℕ) → IsOrder (length order) order → length order ≤ top → order ≡ prefix ++ back
    → IsFalling (priorities_from top order) back
falling-from top order prefix [] is le whole = tt
falling-from top order prefix (first ∷ rest) is le whole =
    let counted : (thread : ℕ) → times thread order ≡ times thread prefix + times thread (first ∷ rest) = λ thread. ap (times thread) whole
    ∙ times-append thread prefix (first ∷ rest) in
    let here : 1 ≤ times first order = omega (arith, counted first, times-same first first rest refl) in
    let first_low : first < length order = ordered-low order first is here in
    let first_prefix : times first prefix ≡ 0 = omega (arith, counted first, times-same first first rest refl, is.once first first_low) in
    let first_place : place_of order first ≡ length prefix = ap (λ l. place_of l first) whole ∙ place-past prefix (first ∷ rest) first first_prefix
    ∙ omega (arith, place-first first first rest refl) in (
      (λ other there.
          let other_there : 1 ≤ times other order = omega (arith, counted other, there) in
          let other_low : other < length order = ordered-low order other is other_there in
          let differ : first ≢ other = λ e. omega (arith, counted other, there, times-same other first rest e, is.once other other_low) in
          let other_prefix : times other prefix ≡ 0 = omega (arith, counted other, there, is.once other other_low) in
          let other_place : place_of order other ≡ length prefix + place_of (first ∷ rest) other = ap (λ l. place_of l other) whole
          ∙ place-past prefix (first ∷ rest) other other_prefix in
          omega (
            arith,
            first_place,
            other_place,
            place-rest first other rest differ,
            first-at top order first first_low,
            first-at top order other other_low,
            place-most order other,
            le,
          )),
      falling-from top order (prefix ++ first ∷ []) rest is le (whole ∙ sym (append_assoc prefix (first ∷ []) rest)),
    )

pub first-falling : (top : ℕ) (order : List ℕ) → IsOrder (length order) order → length order ≤ top → IsFalling (priorities_from top order) order
first-falling top order is le = falling-from top order [] order is le refl

placed-low : (order : List ℕ) (thread : ℕ) → 1 ≤ times thread order → place_of order thread < length order
placed-low [] thread there = absurd (omega (arith, there))
placed-low (first ∷ rest) thread there = elim (cases_eq first thread) as (λ _. place_of (first ∷ rest) thread < length (first ∷ rest)) [
  | inl same ↦ omega (arith, place-first first thread rest same)
  | inr differ ↦ omega (arith, place-rest first thread rest differ, placed-low rest thread (omega (arith, there, times-other thread first rest differ)))
]

-- none of them is a number of a change point
pub first-fresh : (depth : ℕ) (order : List ℕ) (i thread : ℕ) → IsOrder (length order) order → 1 ≤ depth → i + 1 < depth
    → get_or (priorities_from (depth - 1 + length order) order) thread 0 ≢ i + 1
first-fresh depth order i thread is some low = λ same. elim (cases_lt thread (length order)) as (λ _. ⊥) [
  | inl lt ↦ omega (arith, same, low, some, first-at (depth - 1 + length order) order thread lt, placed-low order thread (omega (arith, is.once thread lt)))
  | inr past ↦ omega (
    arith,
    same,
    get_or_past (priorities_from (depth - 1 + length order) order) thread 0
        (omega (arith, past, length-mapped (λ t. depth - 1 + length order - place_of order t) 0 (length order))),
  )
]
