use Rattle.std.proofs.Common.{◌≡◌, drop}
use Rattle.std.specs.List.{find}
use Rattle.std.specs.Str.{bytes_eq}
use Rattle.routine_kit.specs.LineText.{shape_verb}
use Rattle.routine_kit.proofs.line_reading.with_verb.Given as goal

abbrev pub invariant-loop-shape : goal.invariant-loop-shape
invariant-loop-shape l = find (λ shape. bytes_eq (shape_verb shape) l.verb) (drop l.shape-index l.shapes) ≡ find (λ shape. bytes_eq (shape_verb shape) l.verb) l.shapes
