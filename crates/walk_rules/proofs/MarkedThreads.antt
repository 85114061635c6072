-- The threads that pass a test, as a set with a bit for each.
use Rattle.std.proofs.Common.{◌≡◌, ℕ, zero, suc, ◌+◌, ◌*◌, ◌^◌, ◌<◌, ◌≤◌, Bool, true, false, cond, eqb, List, [], ◌∷◌, length, get_or, map, replicate, set, take, ◌++◌, refl, ap, sym, ◌∙◌, arith}
use Rattle.std.proofs.Math.Nat.{pow-suc, pow-le-pow_right}
use Rattle.std.proofs.lemmas.List.{append-nil, drop_all, get_or-map, length-map, take_all}
use Rattle.std.proofs.lemmas.Simd.{bit_mask_l, mask_l-lt, ones-mask_l}
use Rattle.std.specs.Int.{bit_at}
use Rattle.std.specs.Int.RustNames.{count_ones}
use Rattle.std.specs.List.{count_by, refill}
use Rattle.std.specs.Simd.Lanes.{mask_l}
use Rattle.surw_base.specs.declared.limits.TheConstants.{THREADS}
use Rattle.walk_rules.specs.Seen.{able_threads, held_threads, is_able, is_announcing, is_held}
use Rattle.walk_rules.specs.ThreadSet.{members}
use Rattle.walk_rules.specs.declared.seen.Seen.{Seen}
use Rattle.walk_rules.specs.declared.seen.Seen.TheVariants.{Over, Held, Able}
use Rattle.walk_rules.proofs.AbleThreads.{able-threads}
use Rattle.walk_rules.proofs.PassingThreads.{passing_from, passing-all}
use Rattle.walk_rules.proofs.ThreadSets.{counted, members-even, members-none, members-odd}

-- a bit of the next thread
pub bit-more : (marked : Bool) (thread : ℕ) → cond marked (2 ^ suc thread) 0 ≡ 2 * cond marked (2 ^ thread) 0
bit-more true thread = let more = pow-suc 2 thread in omega (arith, more)
bit-more false thread = refl

-- ---- a test of what is seen alone

-- a thread's bit is in the set where it passes
pub marked-has : (test : Seen → Bool) (view : List Seen) (thread : ℕ) → thread < length view
    → cond (test (get_or view thread Over)) (2 ^ thread) 0 ≤ mask_l (map test view)
marked-has test [] thread within = absurd (omega (arith, within))
marked-has test (seen ∷ view) zero within = omega arith
marked-has test (seen ∷ view) (suc thread) within =
    let rest = marked-has test view thread (omega (arith, within)) in
    omega (arith, rest, bit-more (test (get_or view thread Over)) thread)

-- its bit says whether it does
pub marked-bit : (test : Seen → Bool) (view : List Seen) (thread : ℕ) → thread < length view
    → eqb (bit_at (mask_l (map test view)) thread) 1 ≡ test (get_or view thread Over)
marked-bit test view thread within =
    ap (λ n. eqb n 1) (bit_mask_l (map test view) thread ∙ ap (λ (b : Bool). cond {A = ℕ} b 1 0) (get_or-map test view thread Over false within))
    ∙ back (test (get_or view thread Over))
  where
    back : (b : Bool) → eqb (cond b 1 0) 1 ≡ b
    back true = refl
    back false = refl

-- one thread seen anew
pub marked-set : (test : Seen → Bool) (view : List Seen) (thread : ℕ) (seen : Seen) → thread < length view
    → mask_l (map test (set view thread seen)) + cond (test (get_or view thread Over)) (2 ^ thread) 0
    ≡ mask_l (map test view) + cond (test seen) (2 ^ thread) 0
marked-set test [] thread seen within = absurd (omega (arith, within))
marked-set test (old ∷ view) zero seen within = omega arith
marked-set test (old ∷ view) (suc thread) seen within =
    let rest = marked-set test view thread seen (omega (arith, within)) in
    omega (arith, rest, bit-more (test (get_or view thread Over)) thread, bit-more (test seen) thread)

-- no thread that has ended passes
pub over-marked : (test : Seen → Bool) → test Over ≡ false → (threads : ℕ) → mask_l (map test (replicate threads Over)) ≡ 0
over-marked test none zero = refl
over-marked test none (suc threads) =
    let rest = over-marked test none threads in
    let here = ap (λ (b : Bool). cond {A = ℕ} b 1 0) none in
    omega (arith, rest, here)

mask-few : (flags : List Bool) → length flags ≤ THREADS → mask_l flags < 2 ^ THREADS
mask-few flags few =
    let below = mask_l-lt flags in
    let more : 2 ^ length flags ≤ 2 ^ THREADS = pow-le-pow_right {n = 2} (omega arith) {i = length flags} {j = THREADS} few in
    omega (arith, below, more)

pub marked-few : (test : Seen → Bool) (view : List Seen) → length view ≤ THREADS → mask_l (map test view) < 2 ^ THREADS
marked-few test view few = mask-few (map test view) (omega (arith, few, length-map view test))

-- as many are in the set as pass
pub marked-count : (test : Seen → Bool) (view : List Seen) (bits : ℕ) → length view ≤ THREADS → bits ≡ mask_l (map test view)
    → length (members THREADS 0 bits) ≡ count_by test view
marked-count test view bits few is =
    let below = marked-few test view few in
    sym (counted THREADS 0 bits (omega (arith, below, is))) ∙ ap count_ones is ∙ ones-mask_l test view

-- a list of the same length in the place of another
pub refill-all : (xs ws : List Seen) → length ws ≡ length xs → refill (length xs) xs ws ≡ ws
refill-all xs ws same =
    ap (λ rest. take (length xs) (ws ++ rest)) (drop_all (length ws) xs (omega (arith, same)))
    ∙ ap (take (length xs)) (append-nil ws)
    ∙ take_all (length xs) ws (omega (arith, same))

-- ---- a test of the thread's number too

abbrev pub flags_by : (ℕ → Seen → Bool) → ℕ → List Seen → List Bool
flags_by test first [] = []
flags_by test first (seen ∷ view) = test first seen ∷ flags_by test (first + 1) view

length-flags : (test : ℕ → Seen → Bool) (first : ℕ) (view : List Seen) → length (flags_by test first view) ≡ length view
length-flags test first [] = refl
length-flags test first (seen ∷ view) = ap suc (length-flags test (first + 1) view)

pub flags-few : (test : ℕ → Seen → Bool) (first : ℕ) (view : List Seen) → length view ≤ THREADS → mask_l (flags_by test first view) < 2 ^ THREADS
flags-few test first view few = mask-few (flags_by test first view) (omega (arith, few, length-flags test first view))

one-member : (marked : Bool) (count first rest : ℕ)
    → members (suc count) first (cond marked 1 0 + 2 * rest) ≡ cond marked (first ∷ members count (first + 1) rest) (members count (first + 1) rest)
one-member true count first rest = let is : 1 + 2 * rest ≡ rest * 2 + 1 = omega arith in ap (members (suc count) first) is ∙ members-odd count first rest
one-member false count first rest = let is : 0 + 2 * rest ≡ rest * 2 = omega arith in ap (members (suc count) first) is ∙ members-even count first rest

-- the members are the threads that pass
pub marked-members : (test : ℕ → Seen → Bool) (count first : ℕ) (view : List Seen) → length view ≤ count
    → members count first (mask_l (flags_by test first view)) ≡ passing_from test first view
marked-members test count first [] few = members-none count first
marked-members test zero first (seen ∷ view) few = absurd (omega (arith, few))
marked-members test (suc count) first (seen ∷ view) few =
    one-member (test first seen) count first (mask_l (flags_by test (first + 1) view))
    ∙ ap (λ threads. cond (test first seen) (first ∷ threads) threads) (marked-members test count (first + 1) view (omega (arith, few)))

flags-map : (test : Seen → Bool) (first : ℕ) (view : List Seen) → flags_by (λ thread seen. test seen) first view ≡ map test view
flags-map test first [] = refl
flags-map test first (seen ∷ view) = ap (λ flags. test seen ∷ flags) (flags-map test (first + 1) view)

-- the set of those that pass a test of what is seen alone
tested-members : (test : Seen → Bool) (view : List Seen) (bits : ℕ) → length view ≤ THREADS → bits ≡ mask_l (map test view)
    → members THREADS 0 bits ≡ passing_from (λ thread seen. test seen) 0 view
tested-members test view bits few is =
    ap (members THREADS 0) (is ∙ ap mask_l (sym (flags-map test 0 view)))
    ∙ marked-members (λ thread seen. test seen) THREADS 0 view few

-- the set of the threads that can go on
pub able-members : (view : List Seen) (bits : ℕ) → length view ≤ THREADS → bits ≡ mask_l (map is_able view) → members THREADS 0 bits ≡ able_threads view
able-members view bits few is = tested-members is_able view bits few is ∙ sym (able-threads view)

-- ---- the threads that are held

-- they are those that announce an event without those that can go on
pub held-marked : (view : List Seen) → mask_l (map is_held view) + mask_l (map is_able view) ≡ mask_l (map is_announcing view)
held-marked [] = refl
held-marked (Over ∷ view) = omega (arith, held-marked view)
held-marked (Held chosen ∷ view) = omega (arith, held-marked view)
held-marked (Able chosen ∷ view) = omega (arith, held-marked view)

pub held-members : (view : List Seen) (bits : ℕ) → length view ≤ THREADS → bits ≡ mask_l (map is_held view) → members THREADS 0 bits ≡ held_threads view
unfolding held_threads
held-members view bits few is = tested-members is_held view bits few is ∙ sym (passing-all (λ thread seen. is_held seen) view)

-- what is known of a set when a thread is seen anew
pub ruleset marks = (marked-few, marked-has, marked-set)
