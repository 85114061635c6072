-- The line of a verdict.
use Rattle.std.specs.Prelude.{ℕ, List, [], ◌∷◌, ◌++◌, Option, None, Some, codes}
use Rattle.event_class.specs.declared.event.Event.{Event}
use Rattle.event_class.specs.Event.{event_text}
use Rattle.seed_draws.specs.declared.draw_fault.DrawFault.{DrawFault}
use Rattle.seed_draws.specs.declared.draw_fault.DrawFault.TheVariants.{Short, Large}
use Rattle.run_rules.specs.declared.verdict.Verdict.{Verdict}
use Rattle.run_rules.specs.declared.verdict.Verdict.TheVariants.{Ended, Deadlock, WrongCount, Draw, Asked, Left, StepLimit}
use Rattle.surw_base.specs.Lines.{line, list_text}

-- why a source of draws refused
abbrev pub fault_text : DrawFault → List ℕ
fault_text (Short place) = list_text (codes "short") (place ∷ [])
fault_text (Large place kept below) = list_text (codes "large") (place ∷ kept ∷ below ∷ [])

-- the event that is announced
abbrev pub announced_text : Option Event → List ℕ
announced_text None = codes "nothing"
announced_text (Some event) = event_text event

-- the verdict
abbrev pub verdict_text : Verdict → List ℕ
verdict_text Ended = codes "ended"
verdict_text (Deadlock step) = list_text (codes "deadlock") (step ∷ [])
verdict_text (WrongCount step thread counted seen) = list_text (codes "wrong_count") (step ∷ thread ∷ counted ∷ seen ∷ [])
verdict_text (Draw step fault) = list_text (codes "draw") (step ∷ []) ++ codes " " ++ fault_text fault
verdict_text (Asked step thread event announced) =
    list_text (codes "asked") (step ∷ thread ∷ []) ++ codes " " ++ event_text event ++ codes "; announced " ++ announced_text announced
verdict_text (Left step thread) = list_text (codes "left") (step ∷ thread ∷ [])
verdict_text (StepLimit step) = list_text (codes "step_limit") (step ∷ [])

-- its line
unfoldable pub verdict_line : Verdict → List ℕ
verdict_line verdict = line (codes "verdict " ++ verdict_text verdict)
