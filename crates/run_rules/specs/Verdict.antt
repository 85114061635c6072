-- The verdict at a position.
use Rattle.std.specs.Prelude.{ℕ, ◌==◌, ◌&&◌, Bool, false, bytes_eq, ltb, nat_le, List, [], ◌∷◌, length, slice_index, slice_index_or, Option, None, Some, is_some, if◌then◌else◌}
use Rattle.std.specs.List.{find, list_any, range_with_len}
use Rattle.std.specs.Option.{option_map}
use Rattle.event_class.specs.declared.event.Event.{Event}
use Rattle.event_class.specs.declared.pickable.Pickable.{Pickable}
use Rattle.event_class.specs.Event.{numbers_of, verb_of}
use Rattle.event_class.specs.Selection.{has}
use Rattle.walk_rules.specs.declared.asked.Asked.{Asked}
use Rattle.walk_rules.specs.declared.picked.Picked.{Picked}
use Rattle.walk_rules.specs.declared.picked.Picked.TheVariants.{Grant, Stop}
use Rattle.walk_rules.specs.declared.seen.Seen.{Seen}
use Rattle.walk_rules.specs.Seen.{is_able, seen_of}
use Rattle.walk_rules.specs.Strategies.{asked_at, asked_list, counts_down}
use Rattle.run_rules.specs.declared.verdict.Verdict.{Verdict}
use Rattle.run_rules.specs.declared.verdict.Verdict.TheVariants as verdict
use Rattle.run_rules.specs.declared.verdict.Verdict.TheVariants.{Ended, Deadlock, WrongCount, Draw, Left, StepLimit}
use Rattle.run_rules.specs.EventsMade.{events_made}
use Rattle.run_rules.specs.Position.{Position, seen_at}
use Rattle.run_rules.specs.RuleChoice.{choice}
use Rattle.run_rules.specs.Setup.{Setup}

-- whether a thread has no word and made fewer events than counted, or announces a selected event and made no fewer
abbrev pub is_miscounted : List Pickable → ℕ → ℕ → Option Event → Bool
is_miscounted selection counted made None = ltb made counted
is_miscounted selection counted made (Some event) = has selection event && nat_le counted made

abbrev pub is_miscounted_at : Setup → Position → ℕ → Bool
is_miscounted_at setup x thread =
    is_miscounted setup.selection (slice_index setup.counts thread) (events_made setup.selection x.journal thread)
    (slice_index_or x.words thread None)

-- the least such thread
abbrev pub first_miscounted : Setup → Position → Option ℕ
first_miscounted setup x = find (is_miscounted_at setup x) (range_with_len 0 (length x.words))

-- the wrong count of a thread
abbrev pub miscount : Setup → Position → ℕ → Verdict
miscount setup x thread =
    WrongCount (length x.journal) thread (slice_index setup.counts thread) (events_made setup.selection x.journal thread)

-- a wrong count, where the rule takes selected events from the numbers left
abbrev pub wrong_count : Setup → Position → Option Verdict
wrong_count setup x = if counts_down setup.rule then option_map (miscount setup x) (first_miscounted setup x) else None

-- whether two events are one: they have the same verb and the same numbers
abbrev pub is_same_event : Event → Event → Bool
is_same_event one other = bytes_eq (verb_of one) (verb_of other) && bytes_eq (numbers_of one) (numbers_of other)

-- whether a word is an event
abbrev pub is_word : Option Event → Event → Bool
is_word None event = false
is_word (Some word) event = is_same_event word event

-- whether the thread of an entry that is asked for announces its event and is able
abbrev pub can_make : List (Option Event) → List Seen → Asked → Bool
can_make words view entry = is_word (slice_index_or words entry.thread None) entry.event && is_able (seen_of view entry.thread)

-- the entry that is asked for at a step can't be made
abbrev pub other_than_asked : ℕ → List (Option Event) → List Seen → Option Asked → Option Verdict
other_than_asked step words view None = None
other_than_asked step words view (Some entry) =
    if can_make words view entry then None
    else Some (verdict.Asked step entry.thread entry.event (slice_index_or words entry.thread None))

-- no thread has a word: each has ended
abbrev pub end_of_threads : Position → Option Verdict
end_of_threads x = if list_any is_some x.words then None else Some Ended

-- the journal is as long as it may be
abbrev pub step_limit : Setup → Position → Option Verdict
step_limit setup x = if length x.journal == setup.max_steps then Some (StepLimit (length x.journal)) else None

-- no thread is able
abbrev pub deadlock : Setup → Position → Option Verdict
deadlock setup x = if list_any is_able (seen_at setup x) then None else Some (Deadlock (length x.journal))

-- the least thread with a word
abbrev pub first_with_word : List (Option Event) → Option ℕ
first_with_word words = find (λ thread. is_some (slice_index_or words thread None)) (range_with_len 0 (length words))

-- a list of entries is asked for, and is at its end at a step: the least thread with a word is left
abbrev pub left_over : ℕ → List (Option Event) → Option (List Asked) → Option Verdict
left_over step words None = None
left_over step words (Some list) = if ltb step (length list) then None else option_map (Left step) (first_with_word words)

-- the choice is a refusal
abbrev pub refusal : ℕ → Picked → Option Verdict
refusal step (Grant thread forced) = None
refusal step (Stop fault) = Some (Draw step fault)

-- the first of some verdicts
abbrev pub first_of : List (Option Verdict) → Option Verdict
first_of [] = None
first_of (None ∷ rest) = first_of rest
first_of (Some verdict ∷ rest) = Some verdict

-- the verdict at a position, or none where the run goes on
unfoldable pub verdict_at : Setup → Position → Option Verdict
verdict_at setup x =
    first_of
    (other_than_asked (length x.journal) x.words (seen_at setup x) (asked_at setup.rule (length x.journal))
    ∷ wrong_count setup x
    ∷ end_of_threads x
    ∷ step_limit setup x
    ∷ deadlock setup x
    ∷ left_over (length x.journal) x.words (asked_list setup.rule)
    ∷ refusal (length x.journal) (choice setup x)
    ∷ [])
