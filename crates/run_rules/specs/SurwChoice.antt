-- The SURW choice at a position.
use Rattle.std.specs.Prelude.{ℕ, ◌&&◌, ltb, Bool, true, Result, Ok, Err, List, [], ◌∷◌, sum, Option, None, if◌then◌else◌}
use Rattle.event_class.specs.declared.pickable.Pickable.{Pickable}
use Rattle.seed_draws.specs.declared.draw_fault.DrawFault.{DrawFault}
use Rattle.walk_rules.specs.declared.picked.Picked.{Picked}
use Rattle.walk_rules.specs.State.{Memory, new_memory}
use Rattle.walk_rules.specs.Surw.{candidate_bounds, surw_picked}
use Rattle.run_rules.specs.declared.entry.Entry.{Entry}
use Rattle.run_rules.specs.Bounds.{answers_at}
use Rattle.run_rules.specs.Intention.{ends_intention, intended_after}
use Rattle.run_rules.specs.NumbersLeft.{left_at}
use Rattle.run_rules.specs.Position.{Position, seen_at}
use Rattle.run_rules.specs.Setup.{Setup}
use Rattle.run_rules.specs.StrategyChoices.{Choices}

-- an intention is due after some entries: at the start, and after an entry that ended one
unfoldable pub is_due_after : List Pickable → Bool → List Entry → Bool
is_due_after selection at_start [] = at_start
is_due_after selection at_start (entry ∷ entries) = is_due_after selection (ends_intention selection entry) entries

abbrev pub is_fresh : List Pickable → List Entry → Bool
is_fresh selection journal = is_due_after selection true journal

-- one selected draw below the sum of the numbers left, where an intention is due and some number is left
abbrev pub surw_selected_at : Setup → Position → List ℕ
surw_selected_at setup x = if is_fresh setup.selection x.journal && ltb 0 (sum (left_at setup x)) then sum (left_at setup x) ∷ [] else []

-- one other draw below the number of candidates, unless the intention was refused
abbrev pub surw_other_at : Setup → Position → List ℕ
surw_other_at setup x = candidate_bounds (seen_at setup x) (intended_after setup x.journal)

-- the other source answers the bounds at all positions up to this one; its answer here picks among the candidates
unfoldable pub surw_choice : Setup → Position → Picked
surw_choice setup x =
    surw_picked (seen_at setup x) (intended_after setup x.journal) (answers_at setup.other.answers (surw_other_at setup) x)

abbrev pub intended_or_none : Result (Option ℕ) DrawFault → Option ℕ
intended_or_none (Ok intended) = intended
intended_or_none (Err fault) = None

-- what is intended when the position is reached: nothing where an intention is due
abbrev pub surw_memory_at : Setup → Position → Memory
surw_memory_at setup x = record new_memory {
  intended = if is_fresh setup.selection x.journal then None else intended_or_none (intended_after setup x.journal);
}

abbrev pub surw_choices : Choices
surw_choices = record {
  selected_at = surw_selected_at;
  other_at = surw_other_at;
  choice_at = surw_choice;
  memory_at = surw_memory_at;
}
