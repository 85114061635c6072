use Rattle.std.proofs.Common.{◌≡◌, ◌-◌, ◌∷◌, ◌++◌, take}
use Rattle.std.specs.List.{flat_map}
use Rattle.report_text.specs.LogLines.{slot_text}
use Rattle.report_text.proofs.log_lines.push_slots_line.Given as goal

abbrev pub invariant-loop-slot : goal.invariant-loop-slot
invariant-loop-slot l =
    l.text.items ≡ l.initial.text.items ++ flat_map (λ slot. 32 ∷ slot_text slot) (take (l.slot - 1) l.log.reserved)
