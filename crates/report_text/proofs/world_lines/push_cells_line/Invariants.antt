use Rattle.std.proofs.Common.{◌≡◌, ◌++◌, take}
use Rattle.surw_base.specs.Lines.{items_text}
use Rattle.report_text.proofs.world_lines.push_cells_line.Given as goal

abbrev pub invariant-loop-cell : goal.invariant-loop-cell
invariant-loop-cell l = l.text.items ≡ l.initial.text.items ++ items_text (take l.cell l.world.cells)
