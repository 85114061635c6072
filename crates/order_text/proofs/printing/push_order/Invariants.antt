use Rattle.std.proofs.Common.{◌≡◌, ◌++◌, take}
use Rattle.surw_base.specs.Lines.{items_text}
use Rattle.order_text.proofs.printing.push_order.Given as goal

abbrev pub invariant-loop-thread : goal.invariant-loop-thread
invariant-loop-thread l = l.text.items ≡ l.initial.text.items ++ items_text (take l.thread-index l.order)
