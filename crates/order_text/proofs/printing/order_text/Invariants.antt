use Rattle.std.proofs.Common.{◌≡◌, ◌++◌, codes}
use Rattle.std.specs.List.{flat_map, range_with_len}
use Rattle.surw_base.specs.Lines.{list_line}
use Rattle.order_text.specs.OrderText.{offsets_line}
use Rattle.order_text.proofs.printing.order_text.Given as goal

abbrev pub invariant-loop-number : goal.invariant-loop-number
invariant-loop-number l =
    l.text.items ≡ list_line (codes "order") l.split.order ++ flat_map (offsets_line l.split) (range_with_len 0 l.number)
