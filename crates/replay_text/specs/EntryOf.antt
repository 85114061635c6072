-- The entry that a line gives: of the entries that its tokens can make, the one whose text it is.
use Rattle.std.specs.Prelude.{ℕ, ◌^◌, ltb, ◌&&◌, Bool, List, [], ◌∷◌, map, Option}
use Rattle.std.specs.List.{find, list_all}
use Rattle.std.specs.Str.{bytes_eq}
use Rattle.std.specs.Str.Parse.{digits_value}
use Rattle.surw_base.specs.declared.limits.TheConstants.{THREADS}
use Rattle.surw_base.specs.Tokens.{tokens}
use Rattle.event_class.specs.declared.event.Event.{Event}
use Rattle.event_class.specs.declared.event.Event.TheVariants.{Acquire, Release, Load, Store, Add, SwapIf, Find, Claim, Fill, Read, Write, Oldest, Stamp, Flush, Reserve, Put, Mark, Durable, Check}
use Rattle.event_class.specs.Event.{numbers_of}
use Rattle.walk_rules.specs.declared.asked.Asked.{Asked}
use Rattle.replay_text.specs.SavedText.{entry_text}

-- the events with these numbers
abbrev pub events : List ℕ → List Event
events [] = Oldest ∷ Reserve ∷ Durable ∷ []
events (i ∷ []) = Acquire i ∷ Release i ∷ Load i ∷ Find i ∷ Claim i ∷ Read i ∷ Stamp i ∷ Flush i ∷ Mark i ∷ []
events (i ∷ j ∷ []) = Store i j ∷ Add i j ∷ Fill i j ∷ Put i j ∷ Check i j ∷ []
events (i ∷ j ∷ k ∷ []) = SwapIf i j k ∷ Write i j k ∷ []
events _ = []

-- the entries that tokens can make: a thread, any verb and its numbers
abbrev pub entries : List (List ℕ) → List Asked
entries (thread ∷ verb ∷ numbers) = map (λ event. record { thread = digits_value 10 thread; event = event }) (events (map (digits_value 10) numbers))
entries _ = []

-- whether the thread is below `THREADS`, and the numbers of the event below 2 ^ 64
abbrev pub is_entry : Asked → Bool
is_entry entry = ltb entry.thread THREADS && list_all (λ n. ltb n (2 ^ 64)) (numbers_of entry.event)

-- whether this is the text of an entry
abbrev pub is_entry_text : List ℕ → Asked → Bool
is_entry_text line entry = bytes_eq (entry_text entry) line && is_entry entry

-- the entry of which this is the text
unfoldable pub entry_of : List ℕ → Option Asked
entry_of line = find (is_entry_text line) (entries (tokens line))
