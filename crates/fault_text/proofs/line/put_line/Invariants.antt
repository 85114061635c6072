use Rattle.std.proofs.Common.{◌≡◌, ◌++◌, take}
use Rattle.surw_io.specs.Content.{with_end}
use Rattle.fault_text.proofs.Taken.{items_text}
use Rattle.fault_text.proofs.line.put_line.Given as goal

abbrev pub invariant-loop-item : goal.invariant-loop-item
invariant-loop-item g l = record {
  taken : g.O.Sink.taken l.out ≡ with_end (g.O.Sink.taken l.fn.out) (l.word ++ items_text (take l.item-index l.items));
  calm : g.O.Sink.faults l.out ≡ g.O.Sink.faults l.fn.out;
}
