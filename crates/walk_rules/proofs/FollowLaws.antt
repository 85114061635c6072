-- What holds of a replay's pick.
use Rattle.std.proofs.Common.{List, Option, None, Some, IsSomeAnd, IsTrue, is_ok, ap, slice_get}
use Rattle.seed_draws.specs.Answers.{Answering, IsSource}
use Rattle.walk_rules.specs.declared.asked.Asked.{Asked}
use Rattle.walk_rules.specs.declared.seen.Seen.{Seen}
use Rattle.walk_rules.specs.Follow.{asked_thread, follow}
use Rattle.walk_rules.specs.Seen.{is_able, seen_of}
use Rattle.walk_rules.specs.State.{WalkState}
use Rattle.walk_rules.specs.Walk.{CanPick, GrantsAble, IsStrategy}

pub asked-able : (view : List Seen) (entry : Option Asked) → IsSomeAnd entry (λ e. IsTrue (is_able (seen_of view e.thread)))
    → IsTrue (is_able (seen_of view (asked_thread entry)))
asked-able view (Some entry) able = able
asked-able view None able = absurd able

follow-able : (list : List Asked) (walk : WalkState) (view : List Seen) (selected other : Answering) → IsSource selected → IsSource other
    → CanPick (follow list) walk view → GrantsAble view ((follow list).pick walk view selected other).picked
follow-able list walk view selected other source_s source_o can = asked-able view (slice_get list walk.steps) can.asked

pub follow-is : (list : List Asked) → IsStrategy (follow list)
follow-is list = record {
  answered = λ walk view selected other thread forced source_s source_o granted. (ap is_ok source_s.none, ap is_ok source_o.none);
  able = follow-able list;
}
