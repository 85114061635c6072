-- The selected order theorem.
use Rattle.std.specs.Prelude.{◌≡◌, ℕ, false, List, length, sum, Some, slice_get, Ok}
use Rattle.draw_split.specs.Laws.{Gives}
use Rattle.seed_draws.specs.Answers.{IsSource}
use Rattle.seed_draws.specs.Falling.{falling}
use Rattle.walk_rules.specs.declared.rule.Rule.TheVariants.{Surw}
use Rattle.run_rules.specs.declared.entry.Entry.{Entry}
use Rattle.run_rules.specs.declared.verdict.Verdict.TheVariants.{Ended}
use Rattle.run_rules.specs.EventsMade.{selected_order}
use Rattle.run_rules.specs.Position.{Position}
use Rattle.run_rules.specs.Run.{GoesOn}
use Rattle.run_rules.specs.Setup.{Setup}
use Rattle.run_rules.specs.Verdict.{verdict_at}

-- no entry is forced
abbrev pub IsUnforced : List Entry → Type 0
IsUnforced journal = (k : ℕ) (entry : Entry) → slice_get journal k ≡ Some entry → entry.forced ≡ false

-- the answers to the sum of the counts and each number below it, down to 1, are a draw list that names the selected order
pub record IsInDrawnOrder (setup : Setup) (journal : List Entry) : Type 0 where
  pub draws : List ℕ
  pub answered : setup.selected.answers (falling (sum setup.counts)) ≡ Ok draws
  pub gives : Gives setup.counts draws (selected_order setup.selection journal)

-- where a run under SURW ends and no entry is forced, its selected events stand in the order that the draws name
abbrev pub EndsInOrder : Type 0
EndsInOrder = (setup : Setup) (x : Position) → setup.rule ≡ Surw → IsSource setup.selected.answers → IsSource setup.other.answers
    → length setup.counts ≡ length x.words → GoesOn setup x → IsUnforced x.journal → verdict_at setup x ≡ Some Ended
    → IsInDrawnOrder setup x.journal
