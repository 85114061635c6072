-- The narrow candidates as a set.
use Rattle.std.proofs.Common.{◌≡◌, ℕ, zero, suc, ◌+◌, ◌^◌, ◌<◌, ◌≤◌, ◌&&◌, ◌||◌, not, Bool, true, false, cond, List, [], ◌∷◌, length, get_or, map, Option, None, Some, refl, ap, sym, ◌∙◌, arith}
use Rattle.std.proofs.lemmas.Bool.{eq-eqb, ne_eqb}
use Rattle.std.specs.Simd.Lanes.{mask_l}
use Rattle.surw_base.specs.declared.limits.TheConstants.{THREADS}
use Rattle.walk_rules.specs.Seen.{is_able, is_chosen, is_selected, is_unselected, seen_of}
use Rattle.walk_rules.specs.Surw.{is_intended, narrow}
use Rattle.walk_rules.specs.declared.seen.Seen.{Seen}
use Rattle.walk_rules.specs.declared.seen.Seen.TheVariants.{Over, Held, Able}
use Rattle.walk_rules.specs.ThreadSet.{members}
use Rattle.walk_rules.proofs.PassingThreads.{passing_from, passing-all}
use Rattle.walk_rules.proofs.MarkedThreads.{bit-more, flags-few, flags_by, marked-members}

-- whether a thread is one of them
abbrev pub is_candidate : Option ℕ → ℕ → Seen → Bool
is_candidate intended thread seen = is_able seen && (not (is_chosen seen) || is_intended intended thread)

one-other : (seen : Seen) → cond {A = ℕ} (is_able seen && (not (is_chosen seen) || false)) 1 0 ≡ cond {A = ℕ} (is_unselected seen) 1 0
one-other Over = refl
one-other (Held chosen) = refl
one-other (Able true) = refl
one-other (Able false) = refl

one-intended : (seen : Seen) → cond (is_able seen && (not (is_chosen seen) || true)) 1 0 ≡ cond (is_unselected seen) 1 0 + cond (is_selected seen) 1 0
one-intended Over = refl
one-intended (Held chosen) = refl
one-intended (Able true) = refl
one-intended (Able false) = refl

-- where the intended thread is none of these
others-marked : (intended : Option ℕ) (first : ℕ) (view : List Seen) → ((k : ℕ) → is_intended intended (first + k) ≡ false)
    → mask_l (flags_by (is_candidate intended) first view) ≡ mask_l (map is_unselected view)
others-marked intended first [] other = refl
others-marked intended first (seen ∷ view) other =
    let start : first ≡ first + 0 = omega arith in
    let here : is_intended intended first ≡ false = ap (is_intended intended) start ∙ other 0 in
    let one = ap (λ (b : Bool). cond {A = ℕ} (is_able seen && (not (is_chosen seen) || b)) 1 0) here ∙ one-other seen in
    let rest = others-marked intended (first + 1) view
    (λ k. let next : first + 1 + k ≡ first + suc k = omega arith in ap (is_intended intended) next ∙ other (suc k)) in
    omega (arith, one, rest)

-- where it is the one at this place
one-marked : (first k : ℕ) (view : List Seen)
    → mask_l (flags_by (is_candidate (Some (first + k))) first view) ≡ mask_l (map is_unselected view) + cond (is_selected (get_or view k Over)) (2 ^ k) 0
one-marked first k [] = refl
one-marked first zero (seen ∷ view) =
    let here : is_intended (Some (first + 0)) first ≡ true = eq-eqb (first + 0) first (omega arith) in
    let one = ap (λ (b : Bool). cond {A = ℕ} (is_able seen && (not (is_chosen seen) || b)) 1 0) here ∙ one-intended seen in
    let rest = others-marked (Some (first + 0)) (first + 1) view (λ j. ne_eqb (first + 0) (first + 1 + j) (λ e. omega (arith, e))) in
    omega (arith, one, rest)
one-marked first (suc k) (seen ∷ view) =
    let here : is_intended (Some (first + suc k)) first ≡ false = ne_eqb (first + suc k) first (λ e. omega (arith, e)) in
    let one = ap (λ (b : Bool). cond {A = ℕ} (is_able seen && (not (is_chosen seen) || b)) 1 0) here ∙ one-other seen in
    let next : first + suc k ≡ first + 1 + k = omega arith in
    let rest = ap (λ n. mask_l (flags_by (is_candidate (Some n)) (first + 1) view)) next ∙ one-marked (first + 1) k view in
    omega (arith, one, rest, bit-more (is_selected (get_or view k Over)) k)

-- all of them
pub narrow-all : (intended : Option ℕ) (view : List Seen) → narrow intended view ≡ passing_from (is_candidate intended) 0 view
unfolding narrow
narrow-all intended view = passing-all (is_candidate intended) view

-- a set whose members they are
pub record IsNarrowSet (intended : Option ℕ) (view : List Seen) (bits : ℕ) : Type 0 where
  pub threads : members THREADS 0 bits ≡ narrow intended view
  pub few : bits < 2 ^ THREADS

marked-narrow : (intended : Option ℕ) (view : List Seen) (bits : ℕ) → length view ≤ THREADS → bits ≡ mask_l (flags_by (is_candidate intended) 0 view)
    → IsNarrowSet intended view bits
marked-narrow intended view bits few is =
    let below = flags-few (is_candidate intended) 0 view few in
    record {
      threads = ap (members THREADS 0) is ∙ marked-members (is_candidate intended) THREADS 0 view few ∙ sym (narrow-all intended view);
      few = omega (arith, below, is);
    }

-- without an intended thread they are those whose event isn't selected
pub narrow-none : (view : List Seen) (bits : ℕ) → length view ≤ THREADS → bits ≡ mask_l (map is_unselected view) → IsNarrowSet None view bits
narrow-none view bits few is = marked-narrow None view bits few (is ∙ sym (others-marked None 0 view (λ k. refl)))

-- with one it may be one of them
pub narrow-some : (thread : ℕ) (view : List Seen) (bits : ℕ) → length view ≤ THREADS
    → bits ≡ mask_l (map is_unselected view) + cond (is_selected (seen_of view thread)) (2 ^ thread) 0
    → IsNarrowSet (Some thread) view bits
narrow-some thread view bits few is =
    let same : 0 + thread ≡ thread = omega arith in
    marked-narrow (Some thread) view bits few
    (is ∙ sym (one-marked 0 thread view) ∙ ap (λ n. mask_l (flags_by (is_candidate (Some n)) 0 view)) same)
