-- One word more.
use Rattle.std.proofs.Common.{◌≡◌, ℕ, suc, ◌+◌, ◌<◌, ◌≤◌, Bool, cond, refl, ap, sym, ◌∙◌, inl, inr, arith}
use Rattle.std.proofs.lemmas.Bool.{cases_lt, le-ltb, lt-ltb}
use Rattle.rand_pcg.specs.Lcg.{Lcg}
use Rattle.rand_pcg.specs.Pcg.{pcg64}
use Rattle.surw_base.specs.Number.{greatest}
use Rattle.seed_draws.specs.Seeded.{Counted, Past, generator_at, progress_by, progress_after}

generator_at-suc : (seed stream words : ℕ) → generator_at seed stream (suc words) ≡ (pcg64 (generator_at seed stream words)).1
unfolding generator_at
generator_at-suc seed stream words = refl

pub generator_at-more : (seed stream words now : ℕ) (g h : Lcg) → now ≡ words + 1 → g ≡ generator_at seed stream words → h ≡ (pcg64 g).1
    → h ≡ generator_at seed stream now
generator_at-more seed stream words now g h next is step =
    let e : now ≡ suc words = omega (arith, next) in
    rw e (step ∙ ap (λ (x : Lcg). (pcg64 x).1) is ∙ sym (generator_at-suc seed stream words))

-- where the word is counted, and where it isn't
pub progress-more : (seed stream words now : ℕ) (g h : Lcg) → (words < greatest → now ≡ words + 1) → (greatest ≤ words → greatest ≤ now)
    → (words < greatest → g ≡ generator_at seed stream words) → h ≡ (pcg64 g).1
    → progress_by now h ≡ progress_after seed stream (progress_by words g)
progress-more seed stream words now g h more stays is step = elim (cases_lt words greatest) [
  | inl below ↦
      let e : h ≡ generator_at seed stream (suc words) = step ∙ ap (λ (x : Lcg). (pcg64 x).1) (is below) ∙ sym (generator_at-suc seed stream words) in
      ap (λ n. progress_by n h) (more below) ∙ ap (λ x. progress_by (words + 1) x) e
      ∙ sym (ap (λ (b : Bool). progress_after seed stream (cond b (Counted words) (Past g))) (lt-ltb words greatest below))
  | inr past ↦
      ap (λ (b : Bool). cond b (Counted now) (Past h)) (le-ltb now greatest (stays past)) ∙ ap Past step
      ∙ sym (ap (λ (b : Bool). progress_after seed stream (cond b (Counted words) (Past g))) (le-ltb words greatest past))
]
