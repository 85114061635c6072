use Rattle.std.proofs.Common.{◌≡◌, ◌∷◌, ◌++◌, take}
use Rattle.std.specs.List.{flat_map}
use Rattle.report_text.specs.WorldLines.{holder_text}
use Rattle.report_text.proofs.world_lines.push_locks_line.Given as goal

abbrev pub invariant-loop-lock : goal.invariant-loop-lock
invariant-loop-lock l =
    l.text.items ≡ l.initial.text.items ++ flat_map (λ holder. 32 ∷ holder_text holder) (take l.lock l.world.locks)
