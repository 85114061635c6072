-- Where a monitor first fails, with one entry more.
use Rattle.std.proofs.Common.{◌≡◌, ℕ, zero, suc, ◌+◌, ◌<◌, Bool, cond, List, [], ◌∷◌, ◌++◌, length, take, None, Some, refl, ap, sym, ◌∙◌, arith}
use Rattle.std.proofs.Math.Seq.{take-length}
use Rattle.std.proofs.lemmas.List.{map-id, take-append-le, length-append}
use Rattle.std.proofs.lemmas.List.Folds.{find-append}
use Rattle.std.proofs.lemmas.List.FromFn.{map-range_with_len_more}
use Rattle.std.specs.List.{find, range_with_len}
use Rattle.std.specs.Option.{option_or}
use Rattle.test_world.specs.declared.monitor.Monitor.{Monitor}
use Rattle.test_world.specs.Monitor.{is_failing}
use Rattle.test_world.specs.World.{WorldState}
use Rattle.run_rules.specs.declared.entry.Entry.{Entry}
use Rattle.run_rules.specs.Journal.{world_after}
use Rattle.run_rules.specs.MonitorFailures.{first_failing}

range-more : (a n : ℕ) → range_with_len a (n + 1) ≡ range_with_len a n ++ (a + n) ∷ []
range-more a n =
    sym (map-id (range_with_len a (n + 1))) ∙ map-range_with_len_more (λ k. k) a n (a + n) refl ∙ ap (λ xs. xs ++ (a + n) ∷ []) (map-id (range_with_len a n))

find-from-same : (p q : ℕ → Bool) (a n : ℕ) → ((k : ℕ) → k < a + n → p k ≡ q k) → find p (range_with_len a n) ≡ find q (range_with_len a n)
find-from-same p q a zero same = refl
find-from-same p q a (suc n) same =
    (λ i. cond (same a (omega arith) i) (Some a) (find-from-same p q (a + 1) n (λ k below. same k (omega (arith, below))) i))

-- tests that agree below a number find the same number
pub find-range-same : (p q : ℕ → Bool) (n : ℕ) → ((k : ℕ) → k < n → p k ≡ q k) → find p (range_with_len 0 n) ≡ find q (range_with_len 0 n)
find-range-same p q n same = find-from-same p q 0 n (λ k below. same k (omega (arith, below)))

-- a monitor that failed before first fails there; one that didn't fails after the new entry, or not at all
pub failing-more : (world : WorldState) (journal : List Entry) (entry : Entry) (monitor : Monitor)
    → first_failing world (journal ++ entry ∷ []) monitor
    ≡ option_or (first_failing world journal monitor)
    (cond (is_failing (world_after world (journal ++ entry ∷ [])) monitor) (Some (length journal + 1)) None)
unfolding first_failing
failing-more world journal entry monitor =
    let longer : List Entry = journal ++ entry ∷ [] in
    let p : ℕ → Bool = λ k. is_failing (world_after world (take k longer)) monitor in
    let q : ℕ → Bool = λ k. is_failing (world_after world (take k journal)) monitor in
    let n : ℕ = length journal + 1 in
    let long : length longer ≡ n = length-append journal (entry ∷ []) in
    let last : p n ≡ is_failing (world_after world longer) monitor =
    ap (λ k. p k) (sym long) ∙ ap (λ es. is_failing (world_after world es) monitor) (take-length longer) in
    ap (λ m. find p (range_with_len 0 (m + 1))) long
    ∙ ap (λ xs. find p xs) (range-more 0 n)
    ∙ find-append p (range_with_len 0 n) ((0 + n) ∷ [])
    ∙ ap (λ o. option_or o (find p ((0 + n) ∷ [])))
    (find-range-same p q n (λ k below. ap (λ es. is_failing (world_after world es) monitor) (take-append-le k journal (entry ∷ []) (omega arith))))
    ∙ ap (λ m. option_or (find q (range_with_len 0 n)) (cond (p m) (Some m) None)) (omega arith)
    ∙ ap (λ (b : Bool). option_or (find q (range_with_len 0 n)) (cond b (Some n) None)) last
