use Rattle.std.proofs.Common.{◌≡◌, ◌++◌, take}
use Rattle.surw_base.specs.Lines.{items_text}
use Rattle.order_text.proofs.printing.push_offsets.Given as goal

abbrev pub invariant-loop-offset : goal.invariant-loop-offset
invariant-loop-offset l = l.text.items ≡ l.initial.text.items ++ items_text (take l.offset-index l.offsets)
