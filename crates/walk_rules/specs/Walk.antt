-- A walk after a pick and after a step, and the counts that are wrong.
use Rattle.std.specs.Prelude.{◌≡◌, ◌≢◌, ℕ, ◌+◌, ◌-◌, ◌<◌, ◌==◌, ◌&&◌, not, ltb, Bool, List, All, length, slice_index, Option, None, Some, if◌then◌else◌, IsOk, IsSomeAnd, IsTrue, slice_get}
use Rattle.std.specs.List.{find, range_with_len}
use Rattle.std.specs.Option.{option_map}
use Rattle.draw_split.specs.Bag.{less_one}
use Rattle.seed_draws.specs.Answers.{Answering, IsSource}
use Rattle.walk_rules.specs.declared.asked.Asked.{Asked}
use Rattle.walk_rules.specs.declared.picked.Picked.{Picked}
use Rattle.walk_rules.specs.declared.picked.Picked.TheVariants as picked
use Rattle.walk_rules.specs.declared.rule.Rule.{Rule}
use Rattle.walk_rules.specs.declared.rule.Rule.TheVariants.{Pct}
use Rattle.walk_rules.specs.declared.seen.Seen.{Seen}
use Rattle.walk_rules.specs.declared.seen.Seen.TheVariants.{Over, Held, Able}
use Rattle.pct_draws.specs.ChangePoints.{IsWithinDepth}
use Rattle.walk_rules.specs.Seen.{able_threads, is_able, is_announcing, is_chosen, seen_of}
use Rattle.walk_rules.specs.State.{Memory, WalkState}
use Rattle.walk_rules.specs.Strategies.{counts_down, wants_every}
use Rattle.walk_rules.specs.Strategy.{OnePick, Strategy}

abbrev pub after_picked : WalkState → Memory → Picked → WalkState
after_picked walk memory (picked.Grant thread forced) =
    record walk { memory = memory; waiting = Some (record { thread = thread; forced = forced }) }
after_picked walk memory (picked.Stop fault) = walk

-- the walk after a pick: a grant waits for its step, and a refusal leaves the walk as it was
abbrev pub after_pick : WalkState → OnePick → WalkState
after_pick walk one = after_picked walk one.memory one.picked

-- what is kept after a step: a selected step that isn't forced ends the intention
abbrev pub kept_after : Memory → Bool → Bool → Memory
kept_after memory chosen forced = record memory { intended = if chosen && not forced then None else memory.intended }

-- the walk after the step of a thread, whose event is selected or not, and which is forced or not
abbrev pub after_done : WalkState → ℕ → Bool → Bool → WalkState
after_done walk thread chosen forced = record walk {
  steps = walk.steps + 1;
  left = if counts_down walk.rule && chosen then less_one walk.left thread else walk.left;
  memory = kept_after walk.memory chosen forced;
  waiting = None;
}

-- whether a thread has ended with numbers left, or announces a selected event with none left
abbrev pub is_wrong : ℕ → Seen → Bool
is_wrong left Over = ltb 0 left
is_wrong left (Held chosen) = chosen && (left == 0)
is_wrong left (Able chosen) = chosen && (left == 0)

-- whether this thread is so
abbrev pub is_wrong_at : List ℕ → List Seen → ℕ → Bool
is_wrong_at left view thread = is_wrong (slice_index left thread) (seen_of view thread)

-- the least such thread
abbrev pub first_wrong : List ℕ → List Seen → Option ℕ
first_wrong left view = find (is_wrong_at left view) (range_with_len 0 (length view))

-- a thread with its count and the number of events that it made
abbrev pub counted : List ℕ → List ℕ → ℕ → ℕ × ℕ × ℕ
counted counts left thread = (thread, slice_index counts thread, slice_index counts thread - slice_index left thread)

-- where selected events are taken from the numbers left: the least such thread, with its count and the number made
abbrev pub wrong_by : Bool → List ℕ → List ℕ → List Seen → Option (ℕ × ℕ × ℕ)
wrong_by counting counts left view = if counting then option_map (counted counts left) (first_wrong left view) else None

abbrev pub wrong_of : WalkState → List Seen → Option (ℕ × ℕ × ℕ)
wrong_of walk view = wrong_by (counts_down walk.rule) walk.counts walk.left view

-- the same of this thread alone
abbrev pub wrong_at : WalkState → List Seen → ℕ → Option (ℕ × ℕ × ℕ)
wrong_at walk view thread =
    if counts_down walk.rule && is_wrong_at walk.left view thread then Some (counted walk.counts walk.left thread) else None

-- no thread but this one is wrong
abbrev pub NoOtherIsWrong : WalkState → List Seen → ℕ → Type 0
NoOtherIsWrong walk view thread = (other : ℕ) → other < length view → other ≢ thread → wrong_at walk view other ≡ None

-- each event that is announced is selected
abbrev pub AreChosen : List Seen → Type 0
AreChosen view = All (λ seen. IsTrue (is_announcing seen) → IsTrue (is_chosen seen)) view

-- under a rule that wants every event selected
abbrev pub AreChosenUnder : Rule → List Seen → Type 0
AreChosenUnder rule view = IsTrue (wants_every rule) → AreChosen view

-- a granted thread is able
abbrev pub GrantsAble : List Seen → Picked → Type 0
GrantsAble view (picked.Grant thread forced) = IsTrue (is_able (seen_of view thread))
GrantsAble view (picked.Stop fault) = Unit {0}

-- where a list of entries is asked for, it has one for this step, and its thread is able
abbrev pub AsksAble : Option (List Asked) → ℕ → List Seen → Type 0
AsksAble None step view = Unit {0}
AsksAble (Some list) step view = IsSomeAnd (slice_get list step) (λ entry. IsTrue (is_able (seen_of view entry.thread)))

-- a strategy can pick: some thread is able, no count is wrong, every event is selected where that is wanted, and an entry
-- that is asked for is of an able thread
pub record CanPick (strategy : Strategy) (walk : WalkState) (view : List Seen) : Type 0 where
  pub able : 0 < length (able_threads view)
  pub right : wrong_by strategy.counts_down walk.counts walk.left view ≡ None
  pub chosen : IsTrue strategy.wants_every → AreChosen view
  pub asked : AsksAble strategy.asked walk.steps view

-- what holds of every strategy: it grants a step only where all that it asked was answered, and then to an able thread
pub record IsStrategy (strategy : Strategy) : Type 0 where
  pub answered : (walk : WalkState) (view : List Seen) (selected other : Answering) (thread : ℕ) (forced : Bool)
      → IsSource selected → IsSource other
      → (strategy.pick walk view selected other).picked ≡ picked.Grant thread forced
      → IsOk (selected (strategy.pick walk view selected other).selected_bounds)
      × IsOk (other (strategy.pick walk view selected other).other_bounds)
  pub able : (walk : WalkState) (view : List Seen) (selected other : Answering)
      → IsSource selected → IsSource other → CanPick strategy walk view
      → GrantsAble view (strategy.pick walk view selected other).picked

-- the depth of PCT is within its limits
abbrev pub IsDepth : Rule → Type 0
IsDepth (Pct depth) = IsWithinDepth depth
IsDepth rule = Unit {0}
