-- Threads that pass a test of their number and of what is seen of them.
use Rattle.std.proofs.Common.{◌≡◌, ℕ, suc, ◌+◌, ◌<◌, Bool, true, false, cond, List, [], ◌∷◌, length, get_or, refl, ap, ◌∙◌, arith}
use Rattle.std.specs.List.{filter, range_with_len}
use Rattle.walk_rules.specs.Seen.{seen_of}
use Rattle.walk_rules.specs.declared.seen.Seen.{Seen}
use Rattle.walk_rules.specs.declared.seen.Seen.TheVariants.{Over}

-- the threads that pass
abbrev pub passing : (ℕ → Seen → Bool) → List Seen → List ℕ
passing test view = filter (λ thread. test thread (seen_of view thread)) (range_with_len 0 (length view))

-- one after another, where the first thread has this number
abbrev pub passing_from : (ℕ → Seen → Bool) → ℕ → List Seen → List ℕ
passing_from test first [] = []
passing_from test first (seen ∷ view) = cond (test first seen) (first ∷ passing_from test (first + 1) view) (passing_from test (first + 1) view)

filter-from : (test : ℕ → Seen → Bool) (seen_at : ℕ → Seen) (first : ℕ) (view : List Seen)
    → ((k : ℕ) → k < length view → seen_at (first + k) ≡ get_or view k Over)
    → filter (λ thread. test thread (seen_at thread)) (range_with_len first (length view)) ≡ passing_from test first view
filter-from test seen_at first [] same = refl
filter-from test seen_at first (seen ∷ view) same =
    let start : first ≡ first + 0 = omega arith in
    let here : seen_at first ≡ seen = ap seen_at start ∙ same 0 (omega arith) in
    let later : (k : ℕ) → k < length view → seen_at (first + 1 + k) ≡ get_or view k Over =
    λ k lt. let next : first + 1 + k ≡ first + suc k = omega arith in ap seen_at next ∙ same (suc k) (omega arith) in
    let rest = filter-from test seen_at (first + 1) view later in
    (λ i. cond (test first (here i)) (first ∷ rest i) (rest i))

pub passing-all : (test : ℕ → Seen → Bool) (view : List Seen) → passing test view ≡ passing_from test 0 view
passing-all test view =
    filter-from test (seen_of view) 0 view (λ k lt. let same : 0 + k ≡ k = omega arith in ap (seen_of view) same)

-- one thread more
pub length-more : (passes : Bool) (first : ℕ) (rest : List ℕ) → length (cond passes (first ∷ rest) rest) ≡ cond passes 1 0 + length rest
length-more true first rest = omega arith
length-more false first rest = omega arith
