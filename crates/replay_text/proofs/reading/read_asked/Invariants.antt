use Rattle.std.proofs.Common.{length}
use Rattle.replay_text.proofs.ReadLines.{AreRead}
use Rattle.replay_text.proofs.reading.read_asked.Given as goal

abbrev pub invariant-loop-line : goal.invariant-loop-line
invariant-loop-line l = AreRead l.text l.rest l.entries.items

abbrev pub decreases-loop-line : goal.decreases-loop-line
decreases-loop-line l = length l.rest
