-- The profile of a plan: how many events each thread makes in one run under the plain rule.
use Rattle.std.specs.Prelude.{◌≡◌, ◌≢◌, ℕ, List, [], ◌∷◌, map, replicate}
use Rattle.std.specs.List.{range_with_len}
use Rattle.event_class.specs.declared.pickable.Pickable.{Pickable}
use Rattle.event_class.specs.declared.pickable.Pickable.TheVariants.{Every}
use Rattle.seed_draws.specs.SeededSource.{seeded_source}
use Rattle.seed_draws.specs.TapeSource.{strict_tape}
use Rattle.walk_rules.specs.declared.rule.Rule.TheVariants.{Plain}
use Rattle.run_rules.specs.declared.entry.Entry.{Entry}
use Rattle.run_rules.specs.declared.verdict.Verdict.{Verdict}
use Rattle.run_rules.specs.declared.verdict.Verdict.TheVariants as verdict
use Rattle.run_rules.specs.EventsMade.{events_made}
use Rattle.run_rules.specs.Run.{IsRun, Outcome}
use Rattle.run_rules.specs.Setup.{Script, Setup}
use Rattle.pure_run.specs.declared.profiling.ProfileFault.{ProfileFault}
use Rattle.pure_run.specs.declared.profiling.ProfileFault.TheVariants.{StepLimit, Deadlock, OutOfMemory}

-- a setup with the plain rule, counts of 0, the draws of stream 4 of the seed, and no monitors; the plain rule takes no
-- selected draw
abbrev pub profile_setup : Setup → ℕ → Setup
profile_setup setup seed = record setup {
  rule = Plain;
  counts = replicate setup.threads 0;
  selected = strict_tape [];
  other = seeded_source seed 4;
  monitors = [];
}

-- the script of the profile's run
abbrev pub profile_script : Script → ℕ → Script
profile_script script seed = record script { setup = profile_setup script.setup seed }

-- how many selected events each of so many threads made
unfoldable pub counts_made : List Pickable → List Entry → ℕ → List ℕ
counts_made selection journal threads = map (λ thread. events_made selection journal thread) (range_with_len 0 threads)

-- the profile's run stops with this verdict
pub record StopsWith (script : Script) (seed : ℕ) (why : Verdict) : Type 0 where
  pub outcome : Outcome
  pub run : IsRun (profile_script script seed) outcome
  pub verdict : outcome.verdict ≡ why

-- the profile's run ends, and these are the numbers of selected events and of all events that each thread made
pub record IsProfile (script : Script) (seed : ℕ) (selected all : List ℕ) : Type 0 where
  pub ends : StopsWith script seed verdict.Ended
  pub selected_made : selected ≡ counts_made script.setup.selection ends.outcome.journal script.setup.threads
  pub all_made : all ≡ counts_made (Every ∷ []) ends.outcome.journal script.setup.threads

-- why a profile has no counts: its run stops with that verdict, or memory is refused
abbrev pub IsProfileStop : Script → ℕ → ProfileFault → Type 0
IsProfileStop script seed StepLimit = StopsWith script seed (verdict.StepLimit script.setup.max_steps)
IsProfileStop script seed (Deadlock step) = StopsWith script seed (verdict.Deadlock step)
IsProfileStop script seed OutOfMemory = Unit {0}

-- no two answers of a profile differ, want of memory aside
pub record OneProfile (script : Script) (seed : ℕ) : Type 0 where
  pub counts : (selected all others totals : List ℕ) → IsProfile script seed selected all → IsProfile script seed others totals
      → (others ≡ selected) × (totals ≡ all)
  pub ends : (selected all : List ℕ) (fault : ProfileFault) → IsProfile script seed selected all → IsProfileStop script seed fault
      → fault ≡ OutOfMemory
  pub stops : (fault other : ProfileFault) → fault ≢ OutOfMemory → other ≢ OutOfMemory
      → IsProfileStop script seed fault → IsProfileStop script seed other → other ≡ fault
