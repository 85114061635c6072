-- A replay: the entry of a list that is asked for at each step names its thread.
use Rattle.std.specs.Prelude.{ℕ, Option, None, Some, List, [], false, slice_get}
use Rattle.seed_draws.specs.Answers.{Answering}
use Rattle.walk_rules.specs.declared.asked.Asked.{Asked}
use Rattle.walk_rules.specs.declared.picked.Picked.TheVariants.{Grant}
use Rattle.walk_rules.specs.declared.seen.Seen.{Seen}
use Rattle.walk_rules.specs.State.{WalkState}
use Rattle.walk_rules.specs.Strategy.{OnePick, Strategy}

-- the thread of an entry; past the end of a list no step is picked
abbrev pub asked_thread : Option Asked → ℕ
asked_thread None = 0
asked_thread (Some entry) = entry.thread

-- it is granted the step, which isn't forced; no draw is asked for
abbrev pub follow_pick : List Asked → WalkState → List Seen → Answering → Answering → OnePick
follow_pick list walk view selected other = record {
  selected_bounds = [];
  other_bounds = [];
  picked = Grant (asked_thread (slice_get list walk.steps)) false;
  memory = walk.memory;
}

abbrev pub follow : List Asked → Strategy
follow list = record { pick = follow_pick list; counts_down = false; wants_every = false; asked = Some list }
