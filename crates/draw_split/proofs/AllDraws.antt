-- The written-out list of all draw lists, and how many of them name an order.
use Rattle.std.proofs.Common.{◌≡◌, ℕ, zero, suc, ◌+◌, ◌-◌, ◌*◌, ◌==◌, ◌<◌, ◌≤◌, Bool, true, false, cond, ◌&&◌, List, [], ◌∷◌, ◌++◌, length, get_or, map, sum, refl, ap, sym, subst, ◌∙◌, inl, inr, arith, Less, Equal, Greater, nat_cmp, mul_assoc}
use Rattle.std.proofs.lemmas.Bool.{cases_lt, cases_eq, eq-eqb, ne_eqb, lt-ltb, le-ltb}
use Rattle.std.proofs.lemmas.Bool.Decides.{eqb_tells}
use Rattle.std.proofs.lemmas.List.{length-append, length-map, get_or_append_left, get_or-append_right, get_or-map}
use Rattle.std.proofs.lemmas.List.Elements.{All-nil, All-cons, All-append, All-map, All-weaker}
use Rattle.std.proofs.lemmas.List.Sums.{sum_by-cons, sum_by-append}
use Rattle.std.specs.Cmp.Lexicographic.{slice_cmp}
use Rattle.std.specs.List.{All, AllPairs, flat_map, range_with_len, sum_by, count_by}
use Rattle.std.specs.Ordering.{ordering_then}
use Rattle.std.specs.Str.{bytes_eq}
use Rattle.draw_split.specs.AllDraws.{lists_of, times_listed, times_named, factorial, factorials}
use Rattle.draw_split.specs.Bag.{pick, less_one}
use Rattle.draw_split.specs.Named.{named_order}
use Rattle.draw_split.specs.Rooms.{Fits, IsInRoom}
use Rattle.draw_split.proofs.Bag.{bag-picks, bag-times, sum-less_one}
use Rattle.draw_split.proofs.JoinedDraws.{fits-head, fits-tail, fits-nil}
use Rattle.draw_split.proofs.NamedOrders.{after, none-left}
use Rattle.draw_split.proofs.Rooms.{room-nil, room-cons}

-- sums over lists that are made of others
sum_by-map : {X Y : Type 0} (f : Y → ℕ) (g : X → Y) (xs : List X) → sum_by f (map g xs) ≡ sum_by (λ x. f (g x)) xs
sum_by-map f g [] = refl
sum_by-map f g (x ∷ xs) = sum_by-cons f (g x) (map g xs) ∙ ap (λ n. f (g x) + n) (sum_by-map f g xs) ∙ sym (sum_by-cons (λ y. f (g y)) x xs)

sum_by-flat_map : {X Y : Type 0} (f : Y → ℕ) (g : X → List Y) (xs : List X) → sum_by f (flat_map g xs) ≡ sum_by (λ x. sum_by f (g x)) xs
sum_by-flat_map f g [] = refl
sum_by-flat_map f g (x ∷ xs) =
    sum_by-append f (g x) (flat_map g xs)
    ∙ ap (λ n. sum_by f (g x) + n) (sum_by-flat_map f g xs)
    ∙ sym (sum_by-cons (λ y. sum_by f (g y)) x xs)

-- how often a fixed number is summed
cond-times : (b : Bool) (n k : ℕ) → cond b n 0 + k * n ≡ (cond b 1 0 + k) * n
cond-times true n k = omega arith
cond-times false n k = omega arith

sum_by-cond : {X : Type 0} (p : X → Bool) (n : ℕ) (xs : List X) → sum_by (λ x. cond (p x) n 0) xs ≡ count_by p xs * n
sum_by-cond p n [] = omega arith
sum_by-cond p n (x ∷ xs) =
    sum_by-cons (λ y. cond (p y) n 0) x xs
    ∙ ap (λ k. cond (p x) n 0 + k) (sum_by-cond p n xs)
    ∙ cond-times (p x) n (count_by p xs)
    ∙ ap (λ k. k * n) (sym (sum_by-cons (λ y. cond (p y) 1 0) x xs))

count_by-never : {X : Type 0} (xs : List X) → count_by (λ x. false) xs ≡ 0
count_by-never [] = refl
count_by-never (x ∷ xs) = sum_by-cons (λ y. 0) x xs ∙ ap (λ n. 0 + n) (count_by-never xs)

count_by-and : {X : Type 0} (b : Bool) (p : X → Bool) (xs : List X) → count_by (λ x. b && p x) xs ≡ cond b (count_by p xs) 0
count_by-and true p xs = refl
count_by-and false p xs = count_by-never xs

-- a run of numbers holds each once
range-above : (a n d : ℕ) → d < a → count_by (λ other. other == d) (range_with_len a n) ≡ 0
range-above a zero d lt = refl
range-above a (suc n) d lt =
    sum_by-cons (λ other. cond (other == d) 1 0) a (range_with_len (a + 1) n)
    ∙ (λ i. cond (ne_eqb a d (λ e. omega arith) i) 1 0 + range-above (a + 1) n d (omega arith) i)

range-once : (a n d : ℕ) → a ≤ d → d < a + n → count_by (λ other. other == d) (range_with_len a n) ≡ 1
range-once a zero d le lt = absurd (omega arith)
range-once a (suc n) d le lt = elim (cases_eq a d) [
  | inl same ↦
      sum_by-cons (λ other. cond (other == d) 1 0) a (range_with_len (a + 1) n)
      ∙ (λ i. cond (eq-eqb a d same i) 1 0 + range-above (a + 1) n d (omega arith) i)
  | inr other ↦
      sum_by-cons (λ other. cond (other == d) 1 0) a (range_with_len (a + 1) n)
      ∙ (λ i. cond (ne_eqb a d other i) 1 0 + range-once (a + 1) n d (omega arith) (omega arith) i)
]

room-tail : (n draw : ℕ) (draws : List ℕ) → IsInRoom (suc n) (draw ∷ draws) → IsInRoom n draws
room-tail n draw draws room = record {
  full = omega (arith, room.full);
  each = λ j lt. omega (arith, room.each (suc j) (omega arith));
}

-- each list of so many draws is listed once
pub listed-once : (n : ℕ) (draws : List ℕ) → IsInRoom n draws → times_listed draws (lists_of n) ≡ 1
unfolding lists_of
listed-once zero [] room = refl
listed-once zero (draw ∷ draws) room = absurd (omega (arith, room.full))
listed-once (suc n) [] room = absurd (omega (arith, room.full))
listed-once (suc n) (draw ∷ draws) room =
    let rest = listed-once n draws (room-tail n draw draws room) in
    let term : (first : ℕ) → count_by (λ other. bytes_eq other (draw ∷ draws)) (map (λ l. first ∷ l) (lists_of n)) ≡ cond (first == draw) 1 0 = λ first.
    sum_by-map (λ other. cond (bytes_eq other (draw ∷ draws)) 1 0) (λ l. first ∷ l) (lists_of n)
    ∙ count_by-and (first == draw) (λ l. bytes_eq l draws) (lists_of n)
    ∙ ap (λ k. cond (first == draw) k 0) rest in
    sum_by-flat_map (λ other. cond (bytes_eq other (draw ∷ draws)) 1 0) (λ first. map (λ l. first ∷ l) (lists_of n)) (range_with_len 0 (suc n))
    ∙ (λ i. sum_by (λ first. term first i) (range_with_len 0 (suc n)))
    ∙ range-once 0 (suc n) draw (omega arith) (omega (arith, room.each 0 (omega arith)))

-- nothing else is
rooms-run : (n a m : ℕ) (lists : List (List ℕ)) → a + m ≡ suc n → All (IsInRoom n) lists → All (IsInRoom (suc n)) (flat_map (λ draw. map (λ draws. draw ∷ draws) lists) (range_with_len a m))
rooms-run n a zero lists e all = All-nil (IsInRoom (suc n))
rooms-run n a (suc m) lists e all =
    let less : n ≡ suc n - 1 = omega arith in
    All-append (IsInRoom (suc n)) (map (λ draws. a ∷ draws) lists) (flat_map (λ draw. map (λ draws. draw ∷ draws) lists) (range_with_len (a + 1) m))
    (All-map (IsInRoom (suc n)) (λ draws. a ∷ draws) lists
    (All-weaker (IsInRoom n) (λ draws. IsInRoom (suc n) (a ∷ draws))
    (λ draws room. room-cons (suc n) a draws (omega arith) (subst (λ (k : ℕ). IsInRoom k draws) less room)) lists all))
    (rooms-run n (a + 1) m lists (omega arith) all)

pub listed-rooms : (n : ℕ) → All (IsInRoom n) (lists_of n)
unfolding lists_of
listed-rooms zero = All-cons (IsInRoom 0) [] [] (room-nil 0 refl) (All-nil (IsInRoom 0))
listed-rooms (suc n) = rooms-run n 0 (suc n) (lists_of n) (omega arith) (listed-rooms n)

-- lexical order
abbrev IsLower : List ℕ → List ℕ → Type 0
IsLower earlier later = slice_cmp nat_cmp earlier later ≡ Less

lower-head : (a b : ℕ) (xs ys : List ℕ) → a < b → IsLower (a ∷ xs) (b ∷ ys)
lower-head a b xs ys lt = ap (λ (t : Bool). ordering_then (cond t Less (cond (a == b) Equal Greater)) (slice_cmp nat_cmp xs ys)) (lt-ltb a b lt)

lower-tail : (a : ℕ) (xs ys : List ℕ) → IsLower xs ys → IsLower (a ∷ xs) (a ∷ ys)
lower-tail a xs ys lower =
    ap (λ (t : Bool). ordering_then (cond t Less (cond (a == a) Equal Greater)) (slice_cmp nat_cmp xs ys)) (le-ltb a a (omega arith))
    ∙ ap (λ (t : Bool). ordering_then (cond t Equal Greater) (slice_cmp nat_cmp xs ys)) (eq-eqb a a refl)
    ∙ lower

pairs-map : (R : List ℕ → List ℕ → Type 0) (f : List ℕ → List ℕ) (xs : List (List ℕ)) → AllPairs (λ x y. R (f x) (f y)) xs → AllPairs R (map f xs)
pairs-map R f xs pairs i j d lt within =
    let short : j < length xs = omega (arith, length-map xs f) in
    subst (λ (x : List ℕ). R x (get_or (map f xs) j d)) (sym (get_or-map f xs i [] d (omega arith)))
    (subst (R (f (get_or xs i []))) (sym (get_or-map f xs j [] d short)) (pairs i j [] lt short))

pairs-append : (R : List ℕ → List ℕ → Type 0) (xs ys : List (List ℕ)) → AllPairs R xs → AllPairs R ys → All (λ x. All (R x) ys) xs → AllPairs R (xs ++ ys)
pairs-append R xs ys first second across i j d lt within =
    let long = length-append xs ys in
    elim (cases_lt i (length xs)) [
      | inl low ↦ elim (cases_lt j (length xs)) [
        | inl also ↦
            subst (λ (x : List ℕ). R x (get_or (xs ++ ys) j d)) (sym (get_or_append_left xs ys d i low))
            (subst (R (get_or xs i d)) (sym (get_or_append_left xs ys d j also)) (first i j d lt also))
        | inr past ↦
            subst (λ (x : List ℕ). R x (get_or (xs ++ ys) j d)) (sym (get_or_append_left xs ys d i low))
            (subst (R (get_or xs i d)) (sym (get_or-append_right xs ys (length xs) j d refl (omega arith))) (across i d low (j - length xs) d (omega arith)))
      ]
      | inr high ↦
          subst (λ (x : List ℕ). R x (get_or (xs ++ ys) j d)) (sym (get_or-append_right xs ys (length xs) i d refl (omega arith)))
          (subst (R (get_or ys (i - length xs) d)) (sym (get_or-append_right xs ys (length xs) j d refl (omega arith)))
          (second (i - length xs) (j - length xs) d (omega arith) (omega arith)))
    ]

lower-run : (a m b : ℕ) (draws : List ℕ) (lists : List (List ℕ)) → b < a → All (IsLower (b ∷ draws)) (flat_map (λ draw. map (λ draws. draw ∷ draws) lists) (range_with_len a m))
lower-run a zero b draws lists lt = All-nil (IsLower (b ∷ draws))
lower-run a (suc m) b draws lists lt =
    All-append (IsLower (b ∷ draws)) (map (λ l. a ∷ l) lists) (flat_map (λ draw. map (λ l. draw ∷ l) lists) (range_with_len (a + 1) m))
    (All-map (IsLower (b ∷ draws)) (λ l. a ∷ l) lists (λ k d within. lower-head b a draws (get_or lists k d) lt))
    (lower-run (a + 1) m b draws lists (omega arith))

pairs-run : (a m : ℕ) (lists : List (List ℕ)) → AllPairs IsLower lists → AllPairs IsLower (flat_map (λ draw. map (λ draws. draw ∷ draws) lists) (range_with_len a m))
pairs-run a zero lists pairs = λ i j d lt within. absurd (omega arith)
pairs-run a (suc m) lists pairs =
    let later : List (List ℕ) = flat_map (λ draw. map (λ draws. draw ∷ draws) lists) (range_with_len (a + 1) m) in
    pairs-append IsLower (map (λ draws. a ∷ draws) lists) later
    (pairs-map IsLower (λ draws. a ∷ draws) lists (λ i j d lt within. lower-tail a (get_or lists i d) (get_or lists j d) (pairs i j d lt within)))
    (pairs-run (a + 1) m lists pairs)
    (All-map (λ x. All (IsLower x) later) (λ draws. a ∷ draws) lists (λ k d within. lower-run (a + 1) m a (get_or lists k d) lists (omega arith)))

pub listed-pairs : (n : ℕ) → AllPairs IsLower (lists_of n)
unfolding lists_of
listed-pairs zero = λ i j d lt within. absurd (omega arith)
listed-pairs (suc n) = pairs-run 0 (suc n) (lists_of n) (listed-pairs n)

-- the factorials, a count at a time
factorials-none : (counts : List ℕ) → sum counts ≡ 0 → factorials counts ≡ 1
unfolding factorials factorial
factorials-none [] none = refl
factorials-none (c ∷ cs) none =
    let first : c ≡ 0 = omega (arith, sum_by-cons (λ x. x) c cs) in
    let rest : sum cs ≡ 0 = omega (arith, sum_by-cons (λ x. x) c cs) in
    (λ i. factorial (first i) * factorials-none cs rest i)

factorial-step : (count rest : ℕ) → 0 < count → count * (factorial (count - 1) * rest) ≡ factorial count * rest
unfolding factorial
factorial-step zero rest some = absurd (omega arith)
factorial-step (suc k) rest some =
    let less : suc k - 1 ≡ k = omega arith in
    ap (λ n. suc k * (factorial n * rest)) less ∙ sym (mul_assoc (suc k) (factorial k) rest)

swapped : (a b c : ℕ) → a * (b * c) ≡ b * (a * c)
swapped a b c = omega arith

factorials-step : (counts : List ℕ) (thread : ℕ) → 0 < get_or counts thread 0 → get_or counts thread 0 * factorials (less_one counts thread) ≡ factorials counts
unfolding factorials less_one
factorials-step [] thread some = absurd (omega arith)
factorials-step (c ∷ cs) zero some = factorial-step c (factorials cs) some
factorials-step (c ∷ cs) (suc thread) some =
    swapped (get_or cs thread 0) (factorial c) (factorials (less_one cs thread))
    ∙ ap (λ n. factorial c * n) (factorials-step cs thread some)

-- as many draws pick a thread as it is counted
picks-times : (counts : List ℕ) (thread n : ℕ) → sum counts ≡ n → count_by (λ draw. pick counts draw == thread) (range_with_len 0 n) ≡ get_or counts thread 0
picks-times counts thread n e =
    sym (sum_by-map (λ other. cond (other == thread) 1 0) (pick counts) (range_with_len 0 n))
    ∙ ap (count_by (λ other. other == thread)) (sym (bag-picks counts n e))
    ∙ bag-times counts thread

named-first : (counts : List ℕ) (thread : ℕ) (order : List ℕ) (lists : List (List ℕ)) (many : ℕ) → times_named (less_one counts thread) order lists ≡ many → (first : ℕ)
    → times_named counts (thread ∷ order) (map (λ draws. first ∷ draws) lists) ≡ cond (pick counts first == thread) many 0
unfolding named_order
named-first counts thread order lists many rest first =
    sum_by-map (λ draws. cond (bytes_eq (named_order counts draws) (thread ∷ order)) 1 0) (λ draws. first ∷ draws) lists
    ∙ count_by-and (pick counts first == thread) (λ draws. bytes_eq (named_order (after counts first) draws) order) lists
    ∙ elim (eqb_tells (pick counts first) thread) [
      | inl is ↦
          ap (λ (b : Bool). cond b (times_named (after counts first) order lists) 0) is.0
          ∙ ap (λ (t : ℕ). times_named (less_one counts t) order lists) is.1
          ∙ rest
          ∙ ap (λ (b : Bool). cond b many 0) (sym is.0)
      | inr not ↦
          ap (λ (b : Bool). cond b (times_named (after counts first) order lists) 0) not.0
          ∙ ap (λ (b : Bool). cond b many 0) (sym not.0)
    ]

named-nil : (counts : List ℕ) → times_named counts [] ([] ∷ []) ≡ 1
unfolding named_order
named-nil counts = refl

pub named-many : (n : ℕ) (counts order : List ℕ) → sum counts ≡ n → Fits counts order → times_named counts order (lists_of n) ≡ factorials counts
unfolding lists_of
named-many zero counts [] e fits = named-nil counts ∙ sym (factorials-none counts e)
named-many zero counts (thread ∷ order) e fits = absurd (omega (arith, none-left counts thread e, fits-head counts thread order fits))
named-many (suc n) counts [] e fits = absurd (omega (arith, fits-nil counts fits))
named-many (suc n) counts (thread ∷ order) e fits =
    let some = fits-head counts thread order fits in
    let many : ℕ = factorials (less_one counts thread) in
    let rest : times_named (less_one counts thread) order (lists_of n) ≡ many =
    named-many n (less_one counts thread) order (omega (arith, sum-less_one counts thread some)) (fits-tail counts thread order fits) in
    sum_by-flat_map (λ draws. cond (bytes_eq (named_order counts draws) (thread ∷ order)) 1 0) (λ first. map (λ draws. first ∷ draws) (lists_of n)) (range_with_len 0 (suc n))
    ∙ (λ i. sum_by (λ first. named-first counts thread order (lists_of n) many rest first i) (range_with_len 0 (suc n)))
    ∙ sum_by-cond (λ draw. pick counts draw == thread) many (range_with_len 0 (suc n))
    ∙ ap (λ k. k * many) (picks-times counts thread (suc n) e)
    ∙ factorials-step counts thread some
