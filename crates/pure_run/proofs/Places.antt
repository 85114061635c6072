-- The places of monitors, one by one.
use Rattle.std.proofs.Common.{◌≡◌, ℕ, zero, suc, ◌<◌, Bool, false, cond, List, [], ◌∷◌, length, get_or, Option, None, Some, refl, ap, sym, ◌∙◌, arith}
use Rattle.std.proofs.lemmas.List.{ext_get_or}
use Rattle.std.specs.Option.{option_or}
use Rattle.test_world.specs.declared.monitor.Monitor.{Monitor}
use Rattle.test_world.specs.declared.monitor.Monitor.TheVariants.{Expect, CellEnd}
use Rattle.test_world.specs.Monitor.{is_failing}
use Rattle.test_world.specs.World.{WorldState}
use Rattle.run_rules.specs.declared.verdict.Verdict.{Verdict}
use Rattle.run_rules.specs.declared.verdict.Verdict.TheVariants.{Ended}
use Rattle.run_rules.specs.MonitorFailures.{is_ended}
use Rattle.pure_run.specs.Run.{place_at_end, at_end}
use Rattle.pure_run.specs.Monitors.{failed_in, failed_then}

length-then : (world : WorldState) (step : ℕ) (places : List (Option ℕ)) (monitors : List Monitor) → length (failed_then world step places monitors) ≡ length places
unfolding failed_then
length-then world step [] monitors = refl
length-then world step (place ∷ places) [] = ap (λ n. suc n) (length-then world step places [])
length-then world step (place ∷ places) (monitor ∷ monitors) = ap (λ n. suc n) (length-then world step places monitors)

then-place : (world : WorldState) (step : ℕ) (places : List (Option ℕ)) (monitors : List Monitor) (k : ℕ)
    → k < length places → length places ≡ length monitors
    → get_or (failed_then world step places monitors) k None ≡ option_or (get_or places k None) (failed_in world step (get_or monitors k Expect))
unfolding failed_then
then-place world step [] monitors k within same = absurd (omega arith)
then-place world step (place ∷ places) [] k within same = absurd (omega arith)
then-place world step (place ∷ places) (monitor ∷ monitors) zero within same = refl
then-place world step (place ∷ places) (monitor ∷ monitors) (suc k) within same = then-place world step places monitors k (omega arith) (omega arith)

-- places that are so one by one
pub all-then : (world : WorldState) (step : ℕ) (places now : List (Option ℕ)) (monitors : List Monitor)
    → length places ≡ length monitors → length now ≡ length monitors
    → ((k : ℕ) → k < length monitors → get_or now k None ≡ option_or (get_or places k None) (failed_in world step (get_or monitors k Expect)))
    → now ≡ failed_then world step places monitors
all-then world step places now monitors same long each =
    ext_get_or None now (failed_then world step places monitors)
    (long ∙ sym same ∙ sym (length-then world step places monitors))
    (λ k below. each k (omega (arith, long)) ∙ sym (then-place world step places monitors k (omega (arith, long, same)) same))

pub length-end : (world : WorldState) (steps : ℕ) (verdict : Verdict) (places : List (Option ℕ)) (monitors : List Monitor) → length (at_end world steps verdict places monitors) ≡ length places
unfolding at_end
length-end world steps verdict [] monitors = refl
length-end world steps verdict (place ∷ places) [] = ap (λ n. suc n) (length-end world steps verdict places [])
length-end world steps verdict (place ∷ places) (monitor ∷ monitors) = ap (λ n. suc n) (length-end world steps verdict places monitors)

end-place : (world : WorldState) (steps : ℕ) (verdict : Verdict) (places : List (Option ℕ)) (monitors : List Monitor) (k : ℕ)
    → k < length places → length places ≡ length monitors
    → get_or (at_end world steps verdict places monitors) k None ≡ place_at_end world steps verdict (get_or places k None) (get_or monitors k Expect)
unfolding at_end
end-place world steps verdict [] monitors k within same = absurd (omega arith)
end-place world steps verdict (place ∷ places) [] k within same = absurd (omega arith)
end-place world steps verdict (place ∷ places) (monitor ∷ monitors) zero within same = refl
end-place world steps verdict (place ∷ places) (monitor ∷ monitors) (suc k) within same = end-place world steps verdict places monitors k (omega arith) (omega arith)

pub all-end : (world : WorldState) (steps : ℕ) (verdict : Verdict) (places now : List (Option ℕ)) (monitors : List Monitor)
    → length places ≡ length monitors → length now ≡ length monitors
    → ((k : ℕ) → k < length monitors → get_or now k None ≡ place_at_end world steps verdict (get_or places k None) (get_or monitors k Expect))
    → now ≡ at_end world steps verdict places monitors
all-end world steps verdict places now monitors same long each =
    ext_get_or None now (at_end world steps verdict places monitors)
    (long ∙ sym same ∙ sym (length-end world steps verdict places monitors))
    (λ k below. each k (omega (arith, long)) ∙ sym (end-place world steps verdict places monitors k (omega (arith, long, same)) same))

place-kept : (world : WorldState) (steps : ℕ) (verdict : Verdict) (place : Option ℕ) (monitor : Monitor) → is_ended verdict ≡ false
    → place_at_end world steps verdict place monitor ≡ place
place-kept world steps verdict place (CellEnd cell value) goes =
    ap (λ (b : Bool). cond b (cond (is_failing world (CellEnd cell value)) (Some steps) None) place) goes
place-kept world steps verdict place _ goes = refl

-- where the threads haven't all ended, each place stays
pub end-kept : (world : WorldState) (steps : ℕ) (verdict : Verdict) (places : List (Option ℕ)) (monitors : List Monitor) → is_ended verdict ≡ false
    → at_end world steps verdict places monitors ≡ places
unfolding at_end
end-kept world steps verdict [] monitors goes = refl
end-kept world steps verdict (place ∷ places) [] goes = ap (λ rest. place ∷ rest) (end-kept world steps verdict places [] goes)
end-kept world steps verdict (place ∷ places) (monitor ∷ monitors) goes =
    ap (λ p. p ∷ at_end world steps verdict places monitors) (place-kept world steps verdict place monitor goes)
    ∙ ap (λ rest. place ∷ rest) (end-kept world steps verdict places monitors goes)

-- a verdict that isn't that each thread has ended
pub not-ended : (verdict : Verdict) → (verdict ≡ Ended → ⊥) → is_ended verdict ≡ false
not-ended Ended goes = absurd (goes refl)
not-ended _ goes = refl
