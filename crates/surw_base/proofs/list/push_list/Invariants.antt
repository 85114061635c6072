use Rattle.std.proofs.Common.{◌≡◌, ◌++◌, take}
use Rattle.surw_base.specs.Lines.{items_text}
use Rattle.surw_base.proofs.list.push_list.Given as goal

abbrev pub invariant-loop-number : goal.invariant-loop-number
invariant-loop-number l = l.out.items ≡ l.initial.out.items ++ items_text (take l.number-index l.numbers)
