-- A core beside the routines that it tells their replies.
use Rattle.std.specs.Prelude.{◌≡◌, List, map}
use Rattle.std.specs.List.{enumerate_from}
use Rattle.routine_kit.specs.declared.routine.Routine as routine
use Rattle.routine_kit.specs.Run.{after_replies}
use Rattle.seed_draws.specs.declared.draws.Draws as draws
use Rattle.run_rules.specs.declared.entry.Entry.{Entry}
use Rattle.run_rules.specs.declared.plan.Plan.{Plan}
use Rattle.run_rules.specs.LegalJournal.{IsLegal}
use Rattle.run_rules.specs.Plan.{script_of}
use Rattle.run_rules.specs.Replies.{replies_told}
use Rattle.pure_run.specs.declared.word.Word.{Word}
use Rattle.pure_run.specs.declared.word.Word.TheVariants.{Said}
use Rattle.pure_run.specs.Core.{CoreState}
use Rattle.pure_run.specs.Opening.{opening_of}

-- what routines say
abbrev pub said_by : {R : Type 0} → routine.Ghosts R → List R → List Word
said_by behaviour routines = map (λ r. Said (behaviour.announced r)) routines

-- the routines after the replies that a journal told them
abbrev pub told_routines : {R : Type 0} → routine.Ghosts R → List R → List Entry → List R
told_routines behaviour routines journal =
    map (λ e. after_replies behaviour.after_reply e.1 (replies_told journal e.0)) (enumerate_from 0 routines)

-- the core was opened with the plan, its journal is legal, the routines were told its replies, and each has said what it
-- announces
pub record IsInline {R S O : Type 0} (behaviour : routine.Ghosts R) (selected_draws : draws.Ghosts S) (other_draws : draws.Ghosts O)
    (plan : Plan R S O) (core : CoreState S O) (routines : List R) : Type 0 where
  pub opening : core.opening ≡ opening_of plan
  pub legal : IsLegal (script_of behaviour selected_draws other_draws plan) core.journal
  pub told : routines ≡ told_routines behaviour plan.routines.items core.journal
  pub said : core.words ≡ said_by behaviour routines
