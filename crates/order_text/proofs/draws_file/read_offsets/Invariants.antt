use Rattle.std.proofs.Common.{map}
use Rattle.order_text.proofs.OffsetsLines.{AreReadLines}
use Rattle.order_text.proofs.draws_file.read_offsets.Given as goal

abbrev pub invariant-loop-thread : goal.invariant-loop-thread
invariant-loop-thread l = AreReadLines l.text l.rest (map (λ list. list.items) l.lists.items) l.thread
