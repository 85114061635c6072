use Rattle.std.proofs.Common.{◌≡◌, List, ℕ, ◌++◌, length}
use Rattle.surw_io.specs.Content.{with_end}
use Rattle.surw_io.proofs.sink.put_all.Given as goal

abbrev pub invariant-loop-rest : goal.invariant-loop-rest
invariant-loop-rest g l = record {
  held : (prefix : List ℕ) × (prefix ++ l.rest ≡ l.bytes) × (g.O.Sink.taken l.out ≡ with_end (g.O.Sink.taken l.fn.out) prefix);
  calm : g.O.Sink.faults l.out ≡ g.O.Sink.faults l.fn.out;
}

abbrev pub decreases-loop-rest : goal.decreases-loop-rest
decreases-loop-rest g l = length l.rest
