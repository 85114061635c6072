-- What is drawn among the words that come next.
use Rattle.std.proofs.Common.{◌≡◌, ℕ, zero, suc, ◌+◌, ◌-◌, ◌/◌, ◌%◌, ◌<◌, ◌≤◌, Bool, true, false, cond, Some, None, List, length, get_or, ltb, refl, ap, ◌∙◌, arith}
use borrow.Author.Count.{below_more}
use Rattle.std.specs.List.{position, position_or_len}
use Rattle.std.proofs.lemmas.Bool.{lt-ltb, le-ltb}
use Rattle.std.proofs.lemmas.List.Sums.{position_or_len_is}
use Rattle.rand_core.specs.Steps.{first_words}
use Rattle.seed_draws.specs.Share.{is_accepted, share}
use Rattle.seed_draws.specs.Seeded.{SeededState, after_bent, after_word, after_words, drawn, drawn_at, next_words, tries, word_of}

abbrev words : ℕ → SeededState → List ℕ
words n s = first_words (λ state. (word_of state, after_word state)) n s

pub after_none : (s : SeededState) → after_words 0 s ≡ s
unfolding after_words
after_none s = refl

pub after_one : (n : ℕ) (s : SeededState) → after_words (n + 1) s ≡ after_word (after_words n s)
unfolding after_words
after_one n s = let e : n + 1 ≡ suc n = omega arith in ap (λ k. after_words k s) e

after_first : (n : ℕ) (s : SeededState) → after_words n (after_word s) ≡ after_words (suc n) s
unfolding after_words
after_first zero s = refl
after_first (suc n) s = ap after_word (after_first n s)

words-length : (n : ℕ) (s : SeededState) → length (words n s) ≡ n
unfolding first_words
words-length zero s = refl
words-length (suc n) s = ap suc (words-length n (after_word s))

words-at : (n k : ℕ) (s : SeededState) → k < n → get_or (words n s) k 0 ≡ word_of (after_words k s)
unfolding first_words after_words
words-at zero k s lt = absurd (omega arith)
words-at (suc n) zero s lt = refl
words-at (suc n) (suc k) s lt = words-at n k (after_word s) (omega arith) ∙ ap word_of (after_first k s)

-- the word after so many
pub next_word : (k : ℕ) (s : SeededState) → k < tries → get_or (next_words s) k 0 ≡ word_of (after_words k s)
next_word k s lt = words-at tries k s lt

-- the words before a place aren't accepted
pub record NoneBefore (bound : ℕ) (s : SeededState) (k : ℕ) : Type 0 where
  pub none : (j : ℕ) → j < k → is_accepted bound (get_or (next_words s) j 0) ≡ false

first-is : (bound k : ℕ) (s : SeededState) → k ≤ tries → NoneBefore bound s k
    → (k < tries → is_accepted bound (get_or (next_words s) k 0) ≡ true) → position_or_len (is_accepted bound) (next_words s) ≡ k
first-is bound k s le before here =
    position_or_len_is (is_accepted bound) (next_words s) k 0 (omega (arith, words-length tries s)) before.none
    (λ lt. here (omega (arith, lt, words-length tries s)))

-- the first word that is accepted
position-found : (bound k : ℕ) (s : SeededState) → k < tries → NoneBefore bound s k → is_accepted bound (get_or (next_words s) k 0) ≡ true
    → position (is_accepted bound) (next_words s) ≡ Some k
position-found bound k s lt before here =
    let first = first-is bound k s (omega arith) before (λ _. here) in
    let inside : k < length (next_words s) = omega (arith, words-length tries s) in
    ap (λ i. cond (ltb i (length (next_words s))) (Some i) None) first
    ∙ ap (λ (b : Bool). cond b (Some k) None) (lt-ltb k (length (next_words s)) inside)

-- none of them is
position-none : (bound : ℕ) (s : SeededState) → NoneBefore bound s tries → position (is_accepted bound) (next_words s) ≡ None
position-none bound s before =
    let first = first-is bound tries s (omega arith) before (λ lt. absurd (omega (arith, lt))) in
    let all : length (next_words s) ≤ tries = omega (arith, words-length tries s) in
    ap (λ i. cond (ltb i (length (next_words s))) (Some i) None) first
    ∙ ap (λ (b : Bool). cond b (Some tries) None) (le-ltb tries (length (next_words s)) all)

-- one word more that isn't accepted
pub before-more : (bound k : ℕ) (s : SeededState) → NoneBefore bound s k → is_accepted bound (get_or (next_words s) k 0) ≡ false → NoneBefore bound s (k + 1)
before-more bound k s before here = record { none = below_more (λ j. is_accepted bound (get_or (next_words s) j 0) ≡ false) k before.none here }

-- what is drawn where a word is accepted
pub drawn-found : (bound k : ℕ) (s : SeededState) → k < tries → NoneBefore bound s k → is_accepted bound (get_or (next_words s) k 0) ≡ true
    → drawn bound s ≡ (get_or (next_words s) k 0 / share bound, after_words (k + 1) s)
unfolding drawn
drawn-found bound k s lt before here = ap (drawn_at bound s) (position-found bound k s lt before here)

-- and where none is
pub drawn-none : (bound : ℕ) (s : SeededState) → NoneBefore bound s tries
    → drawn bound s ≡ (get_or (next_words s) (tries - 1) 0 % bound, after_bent (after_words tries s))
unfolding drawn
drawn-none bound s before = ap (drawn_at bound s) (position-none bound s before)
