-- The lines of the steps.
use Rattle.std.specs.Prelude.{ℕ, Bool, List, [], ◌∷◌, ◌++◌, codes, if◌then◌else◌}
use Rattle.std.specs.List.{flat_map, enumerate_from}
use Rattle.std.specs.Fmt.{decimal}
use Rattle.event_class.specs.Event.{event_text}
use Rattle.run_rules.specs.declared.entry.Entry.{Entry}
use Rattle.surw_base.specs.Lines.{line, list_text}

-- the mark of a forced entry
abbrev pub forced_mark : Bool → List ℕ
forced_mark forced = if forced then codes " forced" else []

-- the line of the entry of this number
abbrev pub step_line : ℕ → Entry → List ℕ
step_line k entry =
    line (list_text (codes "step") (k ∷ entry.thread ∷ []) ++ codes " " ++ event_text entry.event
    ++ codes " = " ++ decimal entry.reply ++ forced_mark entry.forced)

-- the lines of the entries, from number 0 on
unfoldable pub steps_text : List Entry → List ℕ
steps_text journal = flat_map (λ e. step_line e.0 e.1) (enumerate_from 0 journal)
