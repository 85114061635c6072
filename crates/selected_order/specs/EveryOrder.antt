-- Every order is the selected order of those draw lists that name it, whatever the other draws are.
use Rattle.std.specs.Prelude.{◌≡◌, ℕ, List, count_by}
use Rattle.std.specs.Str.{bytes_eq}
use Rattle.draw_split.specs.AllDraws.{all_draws, factorials}
use Rattle.draw_split.specs.DrawList.{IsDrawList}
use Rattle.draw_split.specs.Named.{named_order}
use Rattle.draw_split.specs.Rooms.{Fits}
use Rattle.routine_kit.specs.declared.routine.Routine.{Ghosts}
use Rattle.seed_draws.specs.Tape.{Tape}
use Rattle.seed_draws.specs.TapeSource.{loose_draws, loose_tape, strict_draws, strict_tape}
use Rattle.walk_rules.specs.declared.rule.Rule.TheVariants.{Surw}
use Rattle.run_rules.specs.declared.entry.Entry.{Entry}
use Rattle.run_rules.specs.declared.plan.Plan.{Plan}
use Rattle.run_rules.specs.EventsMade.{selected_order}
use Rattle.run_rules.specs.Plan.{script_of}
use Rattle.run_rules.specs.Run.{IsRunJournal}
use Rattle.run_rules.specs.Setup.{Script}
use Rattle.selected_order.specs.SurwScript.{IsTame}

-- the script of a plan over tapes
abbrev pub tape_script : {R : Type 0} → Ghosts R → Plan R Tape Tape → Script
tape_script behaviour plan = script_of behaviour strict_draws loose_draws plan

-- a script with these tapes for its sources
abbrev pub with_tapes : Script → List ℕ → List ℕ → Script
with_tapes script draws others =
    record script { setup = record script.setup { selected = strict_tape draws; other = loose_tape others } }

-- whatever the other tape, there is a run on each draw list, and it has the order that the draws name: so the draw lists whose runs
-- have an order are exactly those that name it
abbrev pub EveryOrderOf : Script → Type 0
EveryOrderOf script = script.setup.rule ≡ Surw → IsTame script → (others draws : List ℕ) → IsDrawList script.setup.counts draws
    → ((journal : List Entry) × IsRunJournal (with_tapes script draws others) journal)
    × ((journal : List Entry) → IsRunJournal (with_tapes script draws others) journal
    → selected_order script.setup.selection journal ≡ named_order script.setup.counts draws)

-- and so, with any other tape for each draw list, each order that fits the counts comes on equally many draw lists
abbrev pub OrdersComeEquallyOftenOf : Script → Type 0
OrdersComeEquallyOftenOf script = script.setup.rule ≡ Surw → IsTame script
    → (others_of : List ℕ → List ℕ) (journal_of : List ℕ → List Entry)
    → ((draws : List ℕ) → IsDrawList script.setup.counts draws
    → IsRunJournal (with_tapes script draws (others_of draws)) (journal_of draws))
    → (order : List ℕ) → Fits script.setup.counts order
    → count_by (λ draws. bytes_eq (selected_order script.setup.selection (journal_of draws)) order) (all_draws script.setup.counts)
    ≡ factorials script.setup.counts
