-- What a script has to be so that SURW ends without a forced step: each speaks of all its legal journals, not of one run.
use Rattle.std.specs.Prelude.{◌≡◌, ℕ, ◌≤◌, ◌<◌, List, length, sum, slice_index, None, Some, IsOk, IsTrue}
use Rattle.seed_draws.specs.Answers.{IsSource, NeverRefuses}
use Rattle.seed_draws.specs.Falling.{falling}
use Rattle.event_class.specs.declared.event.Event.{Event}
use Rattle.test_world.specs.World.{new_world, is_enabled}
use Rattle.walk_rules.specs.declared.rule.Rule.TheVariants.{Surw}
use Rattle.run_rules.specs.declared.entry.Entry.{Entry}
use Rattle.run_rules.specs.declared.verdict.Verdict.TheVariants.{Ended}
use Rattle.run_rules.specs.EventsMade.{events_made}
use Rattle.run_rules.specs.Journal.{world_after}
use Rattle.run_rules.specs.LegalJournal.{IsLegal}
use Rattle.run_rules.specs.Position.{position_of}
use Rattle.run_rules.specs.Replies.{announcement}
use Rattle.run_rules.specs.Run.{IsRunJournal}
use Rattle.run_rules.specs.Setup.{Script}
use Rattle.run_rules.specs.Verdict.{verdict_at}
use Rattle.selected_order.specs.SelectedOrder.{IsUnforced}

-- no thread announces an event
abbrev pub HasEnded : Script → List Entry → Type 0
HasEnded script journal = (thread : ℕ) → thread < script.setup.threads → announcement script journal thread ≡ None

-- never blocked: each announced event is enabled
abbrev pub IsNeverBlocked : Script → Type 0
IsNeverBlocked script = (journal : List Entry) → IsLegal script journal → (thread : ℕ) (event : Event) → thread < script.setup.threads
    → announcement script journal thread ≡ Some event → IsTrue (is_enabled (world_after (new_world script.setup.size) journal) event)

-- true counts: where no thread announces an event each made as many selected events as counted
abbrev pub HasTrueCounts : Script → Type 0
HasTrueCounts script = (journal : List Entry) → IsLegal script journal → HasEnded script journal
    → (thread : ℕ) → thread < script.setup.threads
    → events_made script.setup.selection journal thread ≡ slice_index script.setup.counts thread

-- within the step limit
abbrev pub IsWithinStepLimit : Script → Type 0
IsWithinStepLimit script = (journal : List Entry) → IsLegal script journal → length journal ≤ script.setup.max_steps

-- a script of that kind, with a count for each thread
pub record IsTame (script : Script) : Type 0 where
  pub counted : length script.setup.counts ≡ script.setup.threads
  pub free : IsNeverBlocked script
  pub true_counts : HasTrueCounts script
  pub short : IsWithinStepLimit script

-- the run under SURW of such a script, with sources that don't refuse, ends, and no entry is forced
abbrev pub EndsUnforced : Type 0
EndsUnforced = (script : Script) (journal : List Entry) → script.setup.rule ≡ Surw → IsTame script
    → IsSource script.setup.selected.answers → IsSource script.setup.other.answers
    → IsOk (script.setup.selected.answers (falling (sum script.setup.counts))) → NeverRefuses script.setup.other.answers
    → IsRunJournal script journal
    → (verdict_at script.setup (position_of script journal) ≡ Some Ended) × IsUnforced journal
