-- The lines of the events that are announced at the end.
use Rattle.std.specs.Prelude.{ℕ, List, [], ◌∷◌, ◌++◌, Option, None, Some, codes}
use Rattle.std.specs.List.{flat_map, enumerate_from}
use Rattle.event_class.specs.declared.event.Event.{Event}
use Rattle.event_class.specs.Event.{event_text}
use Rattle.surw_base.specs.Lines.{line, list_text}

-- the line of a thread that announces an event, and nothing for a thread that doesn't
abbrev pub next_line : ℕ → Option Event → List ℕ
next_line thread None = []
next_line thread (Some event) = line (list_text (codes "next") (thread ∷ []) ++ codes " " ++ event_text event)

-- the lines of the threads, rising
unfoldable pub next_lines : List (Option Event) → List ℕ
next_lines words = flat_map (λ e. next_line e.0 e.1) (enumerate_from 0 words)
