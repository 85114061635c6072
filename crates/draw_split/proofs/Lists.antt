-- Steps on lists that the kit has no lemma for.
use Rattle.surw_base.specs.declared.limits.TheConstants.{THREADS}
use Rattle.std.proofs.Common.{◌≡◌, ℕ, zero, suc, ◌+◌, ◌-◌, ◌≤◌, List, [], ◌∷◌, ◌++◌, length, get_or, take, replicate, refl, ap, ◌∙◌, arith}
use Rattle.std.proofs.lemmas.List.{drop_all, append-nil, append_assoc, take_all, replicate_more, replicate-append-replicate, length-replicate}
use Rattle.std.proofs.lemmas.List.Elements.{All-append, All-replicate}
use Rattle.std.specs.List.{All, refill}
use Rattle.draw_split.specs.Split.{padded}

-- a list that is refilled with as many is the new ones
pub refill_all : (xs ws : List ℕ) → length ws ≡ length xs → refill (length xs) xs ws ≡ ws
refill_all xs ws e =
    ap (λ (l : List ℕ). take (length xs) (ws ++ l)) (drop_all (length ws) xs (omega arith))
    ∙ ap (take (length xs)) (append-nil ws)
    ∙ take_all (length xs) ws (omega arith)

-- one empty list more
pub missing-more : (now before : List (List ℕ)) (m n : ℕ) → n ≤ m → now ≡ before ++ replicate (m - n) [] → now ++ [] ∷ [] ≡ before ++ replicate (m + 1 - n) []
missing-more now before m n le e =
    let more : m - n + 1 ≡ m + 1 - n = omega arith in
    ap (λ (l : List (List ℕ)). l ++ [] ∷ []) e
    ∙ append_assoc before (replicate (m - n) []) ([] ∷ [])
    ∙ ap (λ (l : List (List ℕ)). before ++ l) (replicate_more (m - n) [])
    ∙ ap (λ n. before ++ replicate n []) more

-- empty lists with those that are missing
pub padded-none : (lists : List (List ℕ)) (n : ℕ) → n ≤ THREADS → lists ≡ replicate n [] → padded lists ≡ replicate THREADS []
padded-none lists n le e =
    let all : n + (THREADS - n) ≡ THREADS = omega arith in
    ap padded e
    ∙ ap (λ m. replicate n [] ++ replicate (THREADS - m) []) (length-replicate {A = List ℕ} n [])
    ∙ replicate-append-replicate n (THREADS - n) []
    ∙ ap (λ m. replicate {A = List ℕ} m []) all

-- lists that are no longer than a number are so with those that are missing
pub All-padded : (most : ℕ) (lists : List (List ℕ)) → All (λ list. length list ≤ most) lists → All (λ list. length list ≤ most) (padded lists)
All-padded most lists all =
    let P : List ℕ → Type 0 = λ list. length list ≤ most in
    let none : 0 ≤ most = omega arith in
    All-append P lists (replicate (THREADS - length lists) []) all (All-replicate P (THREADS - length lists) [] none)

-- each list of empty ones is empty
pub none-kept : (n thread : ℕ) → get_or {A = List ℕ} (replicate n []) thread [] ≡ []
none-kept zero thread = refl
none-kept (suc n) zero = refl
none-kept (suc n) (suc thread) = none-kept n thread
