use Rattle.draw_split.proofs.JoinedDraws.{AreJoined}
use Rattle.draw_split.proofs.joining.draws_of.Given as goal

abbrev pub invariant-loop-thread : goal.invariant-loop-thread
invariant-loop-thread l = AreJoined l.counts l.left l.split.order l.split.offsets l.draws.items l.thread-index
