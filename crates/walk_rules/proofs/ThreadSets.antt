-- Sets of threads that have a bit for each.
use Rattle.std.proofs.Common.{◌≡◌, ℕ, zero, suc, ◌+◌, ◌-◌, ◌*◌, ◌/◌, ◌%◌, ◌^◌, ◌<◌, ◌≤◌, cond, eqb, List, [], ◌∷◌, length, get_or, drop, refl, ap, sym, subst, ◌∙◌, inl, inr, arith}
use Rattle.std.proofs.Math.Nat.{pow-suc}
use Rattle.std.proofs.lemmas.Bool.{cases_lt}
use Rattle.std.proofs.lemmas.List.{length-drop, get_or-drop}
use Rattle.std.proofs.lemmas.Nat.{and_block, ones_cat}
use Rattle.std.specs.Int.Bits.{bit_and, and_self, and_zero_l, and_zero_r}
use Rattle.std.specs.Int.Count.{count_trailing_zeros, ones, under}
use Rattle.std.specs.Int.RustNames.{count_ones}
use Rattle.surw_base.specs.declared.limits.TheConstants.{THREADS}
use Rattle.walk_rules.specs.ThreadSet.{members}

-- what holds of each number that is twice another, and of each that is one more
by-half : (P : ℕ → Type 0) → ((half : ℕ) → P (half * 2)) → ((half : ℕ) → P (half * 2 + 1)) → (n : ℕ) → P n
by-half P even odd n = elim (cases_lt 0 (n % 2)) [
  | inl some ↦ let is : n / 2 * 2 + 1 ≡ n = omega (arith, some) in subst P is (odd (n / 2))
  | inr none ↦ let is : n / 2 * 2 ≡ n = omega (arith, none) in subst P is (even (n / 2))
]

-- ---- the members by the half

pub members-even : (count first half : ℕ) → members (suc count) first (half * 2) ≡ members count (first + 1) half
unfolding members
members-even count first half =
    let low : half * 2 % 2 ≡ 0 = omega arith in
    let rest : half * 2 / 2 ≡ half = omega arith in
    (λ i. cond (eqb (low i) 1) (first ∷ members count (first + 1) (rest i)) (members count (first + 1) (rest i)))

pub members-odd : (count first half : ℕ) → members (suc count) first (half * 2 + 1) ≡ first ∷ members count (first + 1) half
unfolding members
members-odd count first half =
    let low : (half * 2 + 1) % 2 ≡ 1 = omega arith in
    let rest : (half * 2 + 1) / 2 ≡ half = omega arith in
    (λ i. cond (eqb (low i) 1) (first ∷ members count (first + 1) (rest i)) (members count (first + 1) (rest i)))

pub members-none : (count first : ℕ) → members count first 0 ≡ []
unfolding members
members-none zero first = refl
members-none (suc count) first = members-even count first 0 ∙ members-none count (first + 1)

no-members : (first n : ℕ) → members 0 first n ≡ []
unfolding members
no-members first n = refl

-- a set with a member has a bit
pub some-bits : (count first n : ℕ) → 0 < length (members count first n) → 0 < n
some-bits count first zero some = absurd (omega (arith, some, ap length (members-none count first)))
some-bits count first (suc n) some = omega arith

-- ---- how many they are

pub counted : (count first n : ℕ) → n < 2 ^ count → count_ones n ≡ length (members count first n)
unfolding count_ones
counted zero first n few =
    let none : n ≡ 0 = omega (arith, few) in
    ap count_ones none ∙ sym (ap length (no-members first n))
counted (suc count) first n few =
    by-half (λ n. n < 2 ^ suc count → count_ones n ≡ length (members (suc count) first n))
    (λ half small.
    let there : half * 2 ≡ half * 2 ^ 1 + 0 = omega arith in
    ap ones there
    ∙ ones_cat 1 half 0 (omega arith)
    ∙ (let rest = counted count (first + 1) half (omega (arith, small, pow-suc 2 count)) in
    let is = ap length (members-even count first half) in
    omega (arith, rest, is)))
    (λ half small.
    ones_cat 1 half 1 (omega arith)
    ∙ (let rest = counted count (first + 1) half (omega (arith, small, pow-suc 2 count)) in
    let is = ap length (members-odd count first half) in
    omega (arith, rest, is)))
    n few

-- ---- without the lowest bit that is set

cleared-even : (count first half : ℕ)
    → (0 < length (members count (first + 1) half) → members count (first + 1) (bit_and half (half - 1)) ≡ drop 1 (members count (first + 1) half))
    → 0 < length (members (suc count) first (half * 2))
    → members (suc count) first (bit_and (half * 2) (half * 2 - 1)) ≡ drop 1 (members (suc count) first (half * 2))
cleared-even count first zero rest some =
    absurd (omega (arith, some, ap length (members-even count first 0), ap length (members-none count (first + 1))))
cleared-even count first (suc half) rest some =
    let is = members-even count first (suc half) in
    let one : suc half * 2 ≡ suc half * 2 ^ 1 + 0 = omega arith in
    let other : suc half * 2 - 1 ≡ half * 2 ^ 1 + 1 = omega arith in
    let back : bit_and (suc half) half * 2 ^ 1 + bit_and 0 1 ≡ bit_and (suc half) half * 2 = omega (arith, and_zero_l 1) in
    ap (members (suc count) first) ((λ i. bit_and (one i) (other i)) ∙ and_block 1 (suc half) half 0 1 (omega arith) (omega arith) ∙ back)
    ∙ members-even count first (bit_and (suc half) half)
    ∙ (let before : half ≡ suc half - 1 = omega arith in ap (λ n. members count (first + 1) (bit_and (suc half) n)) before)
    ∙ rest (omega (arith, some, ap length is))
    ∙ sym (ap (drop 1) is)

cleared-odd : (count first half : ℕ)
    → members (suc count) first (bit_and (half * 2 + 1) (half * 2 + 1 - 1)) ≡ drop 1 (members (suc count) first (half * 2 + 1))
cleared-odd count first half =
    let other : half * 2 + 1 - 1 ≡ half * 2 ^ 1 + 0 = omega arith in
    let back : bit_and half half * 2 ^ 1 + bit_and 1 0 ≡ half * 2 = omega (arith, and_self half, and_zero_r 1) in
    ap (members (suc count) first) (ap (bit_and (half * 2 + 1)) other ∙ and_block 1 half half 1 0 (omega arith) (omega arith) ∙ back)
    ∙ members-even count first half
    ∙ sym (ap (drop 1) (members-odd count first half))

pub cleared : (count first n : ℕ) → 0 < length (members count first n) → members count first (bit_and n (n - 1)) ≡ drop 1 (members count first n)
cleared zero first n some = absurd (omega (arith, some, ap length (no-members first n)))
cleared (suc count) first n some =
    by-half (λ n. 0 < length (members (suc count) first n) → members (suc count) first (bit_and n (n - 1)) ≡ drop 1 (members (suc count) first n))
    (λ half. cleared-even count first half (cleared count (first + 1) half))
    (λ half _. cleared-odd count first half)
    n some

-- ---- the lowest member

lowest-even : (width half : ℕ) → count_trailing_zeros (suc width) (half * 2) ≡ suc (count_trailing_zeros width half)
unfolding count_trailing_zeros
lowest-even width half =
    let low : half * 2 % 2 ≡ 0 = omega arith in
    let rest : half * 2 / 2 ≡ half = omega arith in
    (λ i. under (low i) (count_trailing_zeros width (rest i)))

lowest-odd : (width half : ℕ) → count_trailing_zeros (suc width) (half * 2 + 1) ≡ 0
unfolding count_trailing_zeros
lowest-odd width half =
    let low : (half * 2 + 1) % 2 ≡ 1 = omega arith in
    ap (λ digit. under digit (count_trailing_zeros width ((half * 2 + 1) / 2))) low

pub lowest : (count width first n : ℕ) → count ≤ width → 0 < length (members count first n)
    → get_or (members count first n) 0 0 ≡ first + count_trailing_zeros width n
lowest zero width first n within some = absurd (omega (arith, some, ap length (no-members first n)))
lowest (suc count) zero first n within some = absurd (omega (arith, within))
lowest (suc count) (suc width) first n within some =
    by-half (λ n. 0 < length (members (suc count) first n) → get_or (members (suc count) first n) 0 0 ≡ first + count_trailing_zeros (suc width) n)
    (λ half more.
    let is = members-even count first half in
    let rest = lowest count width (first + 1) half (omega (arith, within)) (omega (arith, more, ap length is)) in
    let here = ap (λ xs. get_or xs 0 0) is in
    omega (arith, here, rest, lowest-even width half))
    (λ half more.
    let here = ap (λ xs. get_or xs 0 0) (members-odd count first half) in
    omega (arith, here, lowest-odd width half))
    n some

-- each member is below the number of bits
below-cons : (first count : ℕ) (xs : List ℕ) → ((d : ℕ) → d < length xs → get_or xs d 0 < first + 1 + count)
    → (d : ℕ) → d < length (first ∷ xs) → get_or (first ∷ xs) d 0 < first + suc count
below-cons first count xs rest zero lt = omega arith
below-cons first count xs rest (suc d) lt = let is = rest d (omega (arith, lt)) in omega (arith, is)

pub member-below : (count first n d : ℕ) → d < length (members count first n) → get_or (members count first n) d 0 < first + count
member-below zero first n d lt = absurd (omega (arith, lt, ap length (no-members first n)))
member-below (suc count) first n d lt =
    by-half (λ n. d < length (members (suc count) first n) → get_or (members (suc count) first n) d 0 < first + suc count)
    (λ half there.
    let is = members-even count first half in
    let rest = member-below count (first + 1) half d (omega (arith, there, ap length is)) in
    let here = ap (λ xs. get_or xs d 0) is in
    omega (arith, here, rest))
    (λ half there.
    let is = members-odd count first half in
    let here = ap (λ xs. get_or xs d 0) is in
    let rest = below-cons first count (members count (first + 1) half) (member-below count (first + 1) half) d (omega (arith, there, ap length is)) in
    omega (arith, here, rest))
    n lt

-- ---- taking the lowest out

first-rest : (xs : List ℕ) → 0 < length xs → xs ≡ get_or xs 0 0 ∷ drop 1 xs
first-rest [] some = absurd (omega (arith, some))
first-rest (x ∷ xs) some = refl

pub taken : (n : ℕ) → 0 < length (members THREADS 0 n) → members THREADS 0 n ≡ count_trailing_zeros 32 n ∷ members THREADS 0 (bit_and n (n - 1))
taken n some =
    let first : get_or (members THREADS 0 n) 0 0 ≡ count_trailing_zeros 32 n = omega (arith, lowest THREADS 32 0 n (omega arith) some) in
    let rest = sym (cleared THREADS 0 n some) in
    first-rest (members THREADS 0 n) some ∙ (λ i. first i ∷ rest i)

pub taken-some : (n : ℕ) → 0 < length (members THREADS 0 n) → 0 < n
taken-some n some = some-bits THREADS 0 n some

pub taken-below : (n : ℕ) → 0 < length (members THREADS 0 n) → count_trailing_zeros 32 n < THREADS
taken-below n some = omega (arith, lowest THREADS 32 0 n (omega arith) some, member-below THREADS 0 n 0 some)

-- ---- on the way to the member at a place

drop-one : (n : ℕ) (xs : List ℕ) → drop (suc n) xs ≡ drop 1 (drop n xs)
drop-one zero xs = refl
drop-one (suc n) [] = refl
drop-one (suc n) (x ∷ xs) = drop-one n xs

module _ (rest passed place : ℕ) (all : List ℕ) (there : members THREADS 0 rest ≡ drop passed all) (within : place < length all) where
  more : passed ≤ place → 0 < length (members THREADS 0 rest)
  more before = let left = ap length there in omega (arith, left, length-drop passed all, within, before)

  pub rest-some : passed < place → 0 < rest
  rest-some before = some-bits THREADS 0 rest (more (omega (arith, before)))

  pub rest-cleared : passed < place → members THREADS 0 (bit_and rest (rest - 1)) ≡ drop (passed + 1) all
  rest-cleared before =
      let next : suc passed ≡ passed + 1 = omega arith in
      cleared THREADS 0 rest (more (omega (arith, before))) ∙ ap (drop 1) there ∙ sym (drop-one passed all) ∙ ap (λ n. drop n all) next

  pub rest-lowest : passed ≡ place → count_trailing_zeros 32 rest ≡ get_or all place 0
  rest-lowest at =
      let first = lowest THREADS 32 0 rest (omega arith) (more (omega (arith, at))) in
      let same : passed + 0 ≡ place = omega (arith, at) in
      let here = ap (λ xs. get_or xs 0 0) there ∙ get_or-drop passed all 0 0 ∙ ap (λ n. get_or all n 0) same in
      omega (arith, first, here)

  pub rest-below : passed ≡ place → count_trailing_zeros 32 rest < THREADS
  rest-below at =
      let first = lowest THREADS 32 0 rest (omega arith) (more (omega (arith, at))) in
      let below = member-below THREADS 0 rest 0 (more (omega (arith, at))) in
      omega (arith, first, below)
