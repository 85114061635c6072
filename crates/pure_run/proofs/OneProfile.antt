-- No two answers of a profile differ.
use Rattle.std.proofs.Common.{◌≡◌, ℕ, [], ◌∷◌, refl, ap, sym, ◌∙◌}
use Rattle.event_class.specs.declared.pickable.Pickable.TheVariants.{Every}
use Rattle.run_rules.specs.declared.verdict.Verdict.{Verdict}
use Rattle.run_rules.specs.declared.verdict.Verdict.TheVariants as verdict
use Rattle.run_rules.specs.Run.{Outcome}
use Rattle.run_rules.specs.Setup.{Script}
use Rattle.run_rules.proofs.Outcomes.{one-outcome}
use Rattle.pure_run.specs.declared.profiling.ProfileFault.{ProfileFault}
use Rattle.pure_run.specs.declared.profiling.ProfileFault.TheVariants.{StepLimit, Deadlock, OutOfMemory}
use Rattle.pure_run.specs.Profile.{IsProfileStop, OneProfile, StopsWith, counts_made, profile_script}

module _ (script : Script) (seed : ℕ) where
  same-outcome : (why other : Verdict) (one : StopsWith script seed why) (two : StopsWith script seed other) → two.outcome ≡ one.outcome
  same-outcome why other one two = one-outcome (profile_script script seed) one.outcome two.outcome one.run two.run

  same-verdict : (why other : Verdict) → StopsWith script seed why → StopsWith script seed other → other ≡ why
  same-verdict why other one two = sym two.verdict ∙ ap (λ (outcome : Outcome). outcome.verdict) (same-outcome why other one two) ∙ one.verdict

  ends-alone : (fault : ProfileFault) → StopsWith script seed verdict.Ended → IsProfileStop script seed fault → fault ≡ OutOfMemory
  ends-alone StepLimit ends is = let same = same-verdict verdict.Ended (verdict.StepLimit script.setup.max_steps) ends is in cc
  ends-alone (Deadlock step) ends is = let same = same-verdict verdict.Ended (verdict.Deadlock step) ends is in cc
  ends-alone OutOfMemory ends is = refl

  one-stop : (fault other : ProfileFault) → (fault ≡ OutOfMemory → ⊥) → (other ≡ OutOfMemory → ⊥) → IsProfileStop script seed fault → IsProfileStop script seed other
      → other ≡ fault
  one-stop OutOfMemory other not_memory nor_memory is twin = absurd (not_memory refl)
  one-stop StepLimit OutOfMemory not_memory nor_memory is twin = absurd (nor_memory refl)
  one-stop (Deadlock step) OutOfMemory not_memory nor_memory is twin = absurd (nor_memory refl)
  one-stop StepLimit StepLimit not_memory nor_memory is twin = refl
  one-stop StepLimit (Deadlock other) not_memory nor_memory is twin =
      let same = same-verdict (verdict.StepLimit script.setup.max_steps) (verdict.Deadlock other) is twin in cc
  one-stop (Deadlock step) StepLimit not_memory nor_memory is twin =
      let same = same-verdict (verdict.Deadlock step) (verdict.StepLimit script.setup.max_steps) is twin in cc
  one-stop (Deadlock step) (Deadlock other) not_memory nor_memory is twin =
      let same = same-verdict (verdict.Deadlock step) (verdict.Deadlock other) is twin in cc

pub one-profile : (script : Script) (seed : ℕ) → OneProfile script seed
one-profile script seed = record {
  counts = λ selected all others totals one two.
      let same = same-outcome script seed verdict.Ended verdict.Ended one.ends two.ends in (
        two.selected_made ∙ ap (λ (outcome : Outcome). counts_made script.setup.selection outcome.journal script.setup.threads) same ∙ sym one.selected_made,
        two.all_made ∙ ap (λ (outcome : Outcome). counts_made (Every ∷ []) outcome.journal script.setup.threads) same ∙ sym one.all_made,
      );
  ends = λ selected all fault is stop. ends-alone script seed fault is.ends stop;
  stops = λ fault other not_memory nor_memory is twin. one-stop script seed fault other not_memory nor_memory is twin;
}
