-- The place of a draw in the bag, as a thread and a rest below the thread's count.
use Rattle.std.proofs.Common.{◌≡◌, ◌≢◌, ℕ, zero, suc, ◌+◌, ◌-◌, ◌*◌, ◌==◌, ◌<◌, ◌≤◌, Bool, cond, List, [], ◌∷◌, ◌++◌, length, get_or, map, take, replicate, sum, refl, ap, sym, subst, ◌∙◌, inl, inr, arith}
use Rattle.std.proofs.Math.Seq.{take-append-add}
use Rattle.std.proofs.lemmas.Bool.{cases_lt, eq-eqb, ne_eqb}
use Rattle.std.proofs.lemmas.List.{get_or-append-add, get_or_append_left, get_or-replicate, get_or_past, length-append, length-replicate, take-append-le, take-replicate, take_all}
use Rattle.std.proofs.lemmas.List.Folds.{sum_by-replicate}
use Rattle.std.proofs.lemmas.List.FromFn.{fill_by_all}
use Rattle.std.proofs.lemmas.List.Sums.{sum_by-cons, sum_by-append, sum_by-set, sum_by_more_le}
use Rattle.std.specs.List.{flat_map, enumerate_from, count_by, range_with_len}
use Rattle.draw_split.specs.Bag.{bag, pick, offset, less_one}

-- the draw is that many places past the places of the lower threads, within the thread's own
pub record IsAt (counts : List ℕ) (draw thread rest : ℕ) : Type 0 where
  pub within : rest < get_or counts thread 0
  pub there : rest + sum (take thread counts) ≡ draw

-- the bag, with its first thread numbered `first`
abbrev bag_from : ℕ → List ℕ → List ℕ
bag_from first counts = flat_map (λ e. replicate e.1 e.0) (enumerate_from first counts)

-- the first thread's places, then the rest
past-first : (c : ℕ) (cs : List ℕ) (i rest : ℕ) → rest + sum (c ∷ take i cs) ≡ c + (rest + sum (take i cs))
past-first c cs i rest = omega (arith, sum_by-cons (λ x. x) c (take i cs))

-- the thread at a place
pick_from : (counts : List ℕ) (first i rest : ℕ) → rest < get_or counts i 0 → get_or (bag_from first counts) (rest + sum (take i counts)) 0 ≡ first + i
pick_from [] first i rest lt = absurd (omega arith)
pick_from (c ∷ cs) first zero rest lt =
    let e : rest + 0 ≡ rest = omega arith in
    let short : rest < length (replicate c first) = omega (arith, length-replicate c first) in
    ap (λ n. get_or (replicate c first ++ bag_from (first + 1) cs) n 0) e
    ∙ get_or_append_left (replicate c first) (bag_from (first + 1) cs) 0 rest short
    ∙ get_or-replicate c rest first 0 lt
    ∙ omega arith
pick_from (c ∷ cs) first (suc i) rest lt =
    let m : ℕ = rest + sum (take i cs) in
    let e : rest + sum (c ∷ take i cs) ≡ length (replicate c first) + m = past-first c cs i rest ∙ ap (λ n. n + m) (sym (length-replicate c first)) in
    ap (λ n. get_or (replicate c first ++ bag_from (first + 1) cs) n 0) e
    ∙ get_or-append-add (replicate c first) (bag_from (first + 1) cs) m 0
    ∙ pick_from cs (first + 1) i rest lt
    ∙ omega arith

-- how many of a run are a number
count_run_same : (n thread : ℕ) → count_by (λ other. other == thread) (replicate n thread) ≡ n
count_run_same n thread =
    sum_by-replicate (λ other. cond (other == thread) 1 0) n thread
    ∙ ap (λ (b : Bool). n * cond b 1 0) (eq-eqb thread thread refl)
    ∙ omega arith

count_run_other : (n other thread : ℕ) → other ≢ thread → count_by (λ other. other == thread) (replicate n other) ≡ 0
count_run_other n other thread ne =
    sum_by-replicate (λ other. cond (other == thread) 1 0) n other
    ∙ ap (λ (b : Bool). n * cond b 1 0) (ne_eqb other thread ne)
    ∙ omega arith

-- how many places before it are the same thread's
offset_from : (counts : List ℕ) (first i rest : ℕ) → rest < get_or counts i 0
    → count_by (λ thread. thread == first + i) (take (rest + sum (take i counts)) (bag_from first counts)) ≡ rest
offset_from [] first i rest lt = absurd (omega arith)
offset_from (c ∷ cs) first zero rest lt =
    let e : rest + 0 ≡ rest = omega arith in
    let short : rest ≤ length (replicate c first) = omega (arith, length-replicate c first) in
    let same : first + 0 ≡ first = omega arith in
    ap (λ n. count_by (λ thread. thread == first + 0) (take n (replicate c first ++ bag_from (first + 1) cs))) e
    ∙ ap (count_by (λ thread. thread == first + 0)) (take-append-le rest (replicate c first) (bag_from (first + 1) cs) short ∙ take-replicate rest c first (omega arith))
    ∙ ap (λ n. count_by (λ thread. thread == n) (replicate rest first)) same
    ∙ count_run_same rest first
offset_from (c ∷ cs) first (suc i) rest lt =
    let m : ℕ = rest + sum (take i cs) in
    let rest_bag : List ℕ = bag_from (first + 1) cs in
    let e : rest + sum (c ∷ take i cs) ≡ length (replicate c first) + m = past-first c cs i rest ∙ ap (λ n. n + m) (sym (length-replicate c first)) in
    let same : first + suc i ≡ first + 1 + i = omega arith in
    ap (λ n. count_by (λ thread. thread == first + suc i) (take n (replicate c first ++ rest_bag))) e
    ∙ ap (count_by (λ thread. thread == first + suc i)) (take-append-add (replicate c first) rest_bag m)
    ∙ sum_by-append (λ thread. cond (thread == first + suc i) 1 0) (replicate c first) (take m rest_bag)
    ∙ ap (λ n. n + count_by (λ thread. thread == first + suc i) (take m rest_bag)) (count_run_other c first (first + suc i) (omega arith))
    ∙ omega arith
    ∙ ap (λ n. count_by (λ thread. thread == n) (take m rest_bag)) same
    ∙ offset_from cs (first + 1) i rest lt

-- a draw's thread and rest are its pick and its offset
pub pick-at : {counts : List ℕ} {draw thread rest : ℕ} → IsAt counts draw thread rest → pick counts draw ≡ thread
unfolding pick bag
pick-at {counts} {draw} {thread} {rest} at =
    ap (λ n. get_or (bag_from 0 counts) n 0) (sym at.there) ∙ pick_from counts 0 thread rest at.within ∙ omega arith

pub offset-at : {counts : List ℕ} {draw thread rest : ℕ} → IsAt counts draw thread rest → offset counts draw ≡ rest
unfolding offset pick bag
offset-at {counts} {draw} {thread} {rest} at =
    ap (λ n. count_by (λ other. other == n) (take draw (bag_from 0 counts))) (pick-at at)
    ∙ ap (λ n. count_by (λ other. other == thread) (take n (bag_from 0 counts))) (sym at.there)
    ∙ ap (λ n. count_by (λ other. other == n) (take (rest + sum (take thread counts)) (bag_from 0 counts))) (sym (let e : 0 + thread ≡ thread = omega arith in e))
    ∙ offset_from counts 0 thread rest at.within

-- a draw below the sum has a thread and a rest
pub record HasPlace (counts : List ℕ) (draw : ℕ) : Type 0 where
  pub thread : ℕ
  pub rest : ℕ
  pub is : IsAt counts draw thread rest

has_place : (counts : List ℕ) (draw : ℕ) → draw < sum counts → HasPlace counts draw
has_place [] draw lt = absurd (omega arith)
has_place (c ∷ cs) draw lt = elim (cases_lt draw c) [
  | inl below ↦ record { thread = 0; rest = draw; is = record { within = below; there = omega arith } }
  | inr above ↦
      let later = has_place cs (draw - c) (omega (arith, sum_by-cons (λ x. x) c cs)) in
      record {
        thread = suc later.thread;
        rest = later.rest;
        is = record { within = later.is.within; there = omega (arith, past-first c cs later.thread later.rest, later.is.there) };
      }
]

-- a draw below the sum is at its pick and its offset
pub placed : (counts : List ℕ) (draw : ℕ) → draw < sum counts → IsAt counts draw (pick counts draw) (offset counts draw)
placed counts draw lt =
    let p = has_place counts draw lt in
    subst (λ (thread : ℕ). IsAt counts draw thread (offset counts draw)) (sym (pick-at p.is))
    (subst (IsAt counts draw p.thread) (sym (offset-at p.is)) p.is)

-- a thread with a count is in the list
pub listed : (counts : List ℕ) (thread rest : ℕ) → rest < get_or counts thread 0 → thread < length counts
listed counts thread rest lt = elim (cases_lt thread (length counts)) [
  | inl below ↦ below
  | inr past ↦ absurd (omega (arith, get_or_past counts thread 0 (omega arith)))
]

-- the sum falls by one with a count
pub sum-less_one : (counts : List ℕ) (thread : ℕ) → 0 < get_or counts thread 0 → sum (less_one counts thread) + 1 ≡ sum counts
unfolding less_one
sum-less_one counts thread some =
    omega (arith, sum_by-set (λ x. x) counts thread (get_or counts thread 0 - 1) 0 (listed counts thread 0 some))

-- a place of the bag is below the sum
pub at-below : {counts : List ℕ} {draw thread rest : ℕ} → IsAt counts draw thread rest → draw < sum counts
at-below {counts} {draw} {thread} {rest} at =
    let within = at.within in
    omega (arith, at.there, sum_by_more_le (λ x. x) counts thread 0 (listed counts thread rest at.within))

-- the places of the lower threads, summed one count after another
pub summed-at : (counts lower : List ℕ) (draw thread rest index : ℕ) → rest < get_or counts thread 0 → lower ≡ take thread counts
    → draw ≡ rest + sum (take index lower) → length lower ≤ index → IsAt counts draw thread rest
summed-at counts lower draw thread rest index within cut summed past = record {
  within = within;
  there = sym (summed ∙ ap (λ (l : List ℕ). rest + sum l) (take_all index lower past ∙ cut));
}

-- one draw alone has a pick and an offset
pub only-at : (counts : List ℕ) (draw thread rest : ℕ) → IsAt counts draw thread rest
    → (other : ℕ) → other < sum counts → pick counts other ≡ thread → offset counts other ≡ rest → other ≡ draw
only-at counts draw thread rest at other lt picked put =
    sym (placed counts other lt).there ∙ (λ i. put i + sum (take (picked i) counts)) ∙ at.there

-- how often a thread stands in the bag
bag_from-none : (counts : List ℕ) (first thread : ℕ) → thread < first → count_by (λ other. other == thread) (bag_from first counts) ≡ 0
bag_from-none [] first thread lt = refl
bag_from-none (c ∷ cs) first thread lt =
    sum_by-append (λ other. cond (other == thread) 1 0) (replicate c first) (bag_from (first + 1) cs)
    ∙ (λ i. count_run_other c first thread (λ e. omega arith) i + bag_from-none cs (first + 1) thread (omega arith) i)

bag_from-times : (counts : List ℕ) (first i : ℕ) → count_by (λ other. other == first + i) (bag_from first counts) ≡ get_or counts i 0
bag_from-times [] first i = refl
bag_from-times (c ∷ cs) first zero =
    let same : first + 0 ≡ first = omega arith in
    ap (λ n. count_by (λ other. other == n) (replicate c first ++ bag_from (first + 1) cs)) same
    ∙ sum_by-append (λ other. cond (other == first) 1 0) (replicate c first) (bag_from (first + 1) cs)
    ∙ (λ i. count_run_same c first i + bag_from-none cs (first + 1) first (omega arith) i)
    ∙ omega arith
bag_from-times (c ∷ cs) first (suc i) =
    let same : first + suc i ≡ first + 1 + i = omega arith in
    ap (λ n. count_by (λ other. other == n) (replicate c first ++ bag_from (first + 1) cs)) same
    ∙ sum_by-append (λ other. cond (other == first + 1 + i) 1 0) (replicate c first) (bag_from (first + 1) cs)
    ∙ (λ j. count_run_other c first (first + 1 + i) (λ e. omega arith) j + bag_from-times cs (first + 1) i j)
    ∙ omega arith

pub bag-times : (counts : List ℕ) (thread : ℕ) → count_by (λ other. other == thread) (bag counts) ≡ get_or counts thread 0
unfolding bag
bag-times counts thread =
    let same : 0 + thread ≡ thread = omega arith in
    ap (λ n. count_by (λ other. other == n) (bag_from 0 counts)) (sym same) ∙ bag_from-times counts 0 thread

-- the bag has as many places as the sum
length-bag_from : (counts : List ℕ) (first : ℕ) → length (bag_from first counts) ≡ sum counts
length-bag_from [] first = refl
length-bag_from (c ∷ cs) first =
    omega (arith, length-append (replicate c first) (bag_from (first + 1) cs), length-replicate c first, length-bag_from cs (first + 1), sum_by-cons (λ x. x) c cs)

pub length-bag : (counts : List ℕ) → length (bag counts) ≡ sum counts
unfolding bag
length-bag counts = length-bag_from counts 0

-- the picks of all draws below the sum are the bag
pub bag-picks : (counts : List ℕ) (n : ℕ) → sum counts ≡ n → bag counts ≡ map (pick counts) (range_with_len 0 n)
unfolding pick
bag-picks counts n e = fill_by_all (λ k. get_or (bag counts) k 0) (bag counts) n 0 (length-bag counts ∙ e) (λ k lt. refl)
