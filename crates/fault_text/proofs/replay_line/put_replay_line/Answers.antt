use Rattle.std.proofs.Common.{sym}
use Rattle.fault_text.proofs.replay_line.put_replay_line.Goals as goal

pub returns-in-Line-clause-all : goal.returns-in-Line-clause-all
returns-in-Line-clause-all g c = rw (c.in-Line.is, sym c.from.ensures) c.put_line-in-Line.ensures.all

pub returns-in-TooMany-clause-all : goal.returns-in-TooMany-clause-all
returns-in-TooMany-clause-all g c = rw (c.in-TooMany.is, sym c.from-in-TooMany.ensures) c.put_line-in-TooMany.ensures.all

pub returns-in-NoEnd-clause-all : goal.returns-in-NoEnd-clause-all
returns-in-NoEnd-clause-all g c = rw c.in-NoEnd.is c.put_line-in-NoEnd.ensures.all
