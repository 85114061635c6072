-- The numbers that are kept, found from the held threads.
use Rattle.std.proofs.Common.{◌≡◌, ℕ, suc, ◌+◌, ◌<◌, false, List, [], ◌∷◌, length, get_or, sum, None, refl, ap, ◌∙◌, arith}
use Rattle.std.proofs.lemmas.Bool.{ltb-false}
use Rattle.std.proofs.lemmas.List.Sums.{sum_by-cons}
use Rattle.std.specs.List.{sum_by}
use Rattle.walk_rules.specs.Seen.{held_threads, is_held, kept_to_able}
use Rattle.walk_rules.specs.Walk.{first_wrong, is_wrong}
use Rattle.walk_rules.specs.declared.seen.Seen.{Seen}
use Rattle.walk_rules.specs.declared.seen.Seen.TheVariants.{Over, Held, Able}
use Rattle.walk_rules.proofs.PassingThreads.{passing_from, passing-all}
use Rattle.walk_rules.proofs.WrongThreads.{none-wrong}

-- the held threads, where the first thread has this number
abbrev held_from : ℕ → List Seen → List ℕ
held_from = passing_from (λ thread seen. is_held seen)

-- the numbers of some threads, summed
abbrev pub number_sum : List ℕ → List ℕ → ℕ
number_sum left threads = sum_by (λ thread. get_or left thread 0) threads

-- ---- from the first thread on

-- these are the numbers of the threads from one on
abbrev AreFrom : (ℕ → ℕ) → ℕ → List ℕ → Type 0
AreFrom number_of first left = (k : ℕ) → number_of (first + k) ≡ get_or left k 0

from-here : (number_of : ℕ → ℕ) (first number : ℕ) (numbers : List ℕ) → AreFrom number_of first (number ∷ numbers) → number_of first ≡ number
from-here number_of first number numbers are = let start : first ≡ first + 0 = omega arith in ap number_of start ∙ are 0

from-next : (number_of : ℕ → ℕ) (first number : ℕ) (numbers : List ℕ) → AreFrom number_of first (number ∷ numbers) → AreFrom number_of (first + 1) numbers
from-next number_of first number numbers are k = let next : first + 1 + k ≡ first + suc k = omega arith in ap number_of next ∙ are (suc k)

-- what is kept and what the held threads have left is all
sum-from : (number_of : ℕ → ℕ) (first : ℕ) (left : List ℕ) (view : List Seen) → length view ≡ length left → AreFrom number_of first left
    → ((k : ℕ) → k < length view → is_wrong (get_or left k 0) (get_or view k Over) ≡ false)
    → sum (kept_to_able left view) + sum_by number_of (held_from first view) ≡ sum left
unfolding kept_to_able
sum-from number_of first [] [] long are right = refl
sum-from number_of first [] (seen ∷ view) long are right = absurd (omega (arith, long))
sum-from number_of first (number ∷ numbers) [] long are right = absurd (omega (arith, long))
sum-from number_of first (number ∷ numbers) (Over ∷ view) long are right =
    let rest = sum-from number_of (first + 1) numbers view (omega (arith, long)) (from-next number_of first number numbers are) (λ k lt. right (suc k) (omega (arith, lt))) in
    omega (arith, rest, ltb-false 0 number (right 0 (omega arith)), sum_by-cons (λ x. x) number numbers, sum_by-cons (λ x. x) 0 (kept_to_able numbers view))
sum-from number_of first (number ∷ numbers) (Held chosen ∷ view) long are right =
    let rest = sum-from number_of (first + 1) numbers view (omega (arith, long)) (from-next number_of first number numbers are) (λ k lt. right (suc k) (omega (arith, lt))) in
    omega (
      arith,
      rest,
      from-here number_of first number numbers are,
      sum_by-cons number_of first (held_from (first + 1) view),
      sum_by-cons (λ x. x) number numbers,
      sum_by-cons (λ x. x) 0 (kept_to_able numbers view),
    )
sum-from number_of first (number ∷ numbers) (Able chosen ∷ view) long are right =
    let rest = sum-from number_of (first + 1) numbers view (omega (arith, long)) (from-next number_of first number numbers are) (λ k lt. right (suc k) (omega (arith, lt))) in
    omega (arith, rest, sum_by-cons (λ x. x) number numbers, sum_by-cons (λ x. x) number (kept_to_able numbers view))

-- ---- from the first of all

are-all : (left : List ℕ) → AreFrom (λ thread. get_or left thread 0) 0 left
are-all left k = let same : 0 + k ≡ k = omega arith in ap (λ n. get_or left n 0) same

-- all that is left, without what the held threads have, is kept
pub sum-held : (left : List ℕ) (view : List Seen) → length view ≡ length left → first_wrong left view ≡ None
    → sum (kept_to_able left view) + number_sum left (held_threads view) ≡ sum left
unfolding held_threads
sum-held left view long right =
    ap (λ threads. sum (kept_to_able left view) + number_sum left threads) (passing-all (λ thread seen. is_held seen) view)
    ∙ sum-from (λ thread. get_or left thread 0) 0 left view long (are-all left) (none-wrong left view right)
