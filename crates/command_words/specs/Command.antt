-- The program's command, and what it takes and gives.
use Rattle.std.specs.Prelude.{Bool, true, false, List, Option, Some, codes}
use Rattle.clap.specs.Words.{App, Rule, Text, fault_of, first_of, matches_of, new_app, new_rule, with_rule}
use Rattle.clap.specs.Walk.{is_empty}
use Rattle.clap.specs.Simple.{on_top}
use Rattle.clap.specs.declared.builder.action.ArgAction.TheVariants.{Set}

-- a value by its place
abbrev pub positional : Text → Bool → Rule
positional id required = record (new_rule id) { required = required; action = Some Set }

-- a value behind `--` and its name
abbrev pub option : Text → Rule
option id = record (new_rule id) { long = Some id; action = Some Set }

-- a job, the name of its file, that of a saved file, and four options
unfoldable pub surw_app : App
surw_app = with_rule (with_rule (with_rule (with_rule (with_rule (with_rule (with_rule
    (on_top (λ s. record s { no_binary_name = true }) (new_app (codes "surw")))
    (positional (codes "job") true))
    (positional (codes "name") true))
    (positional (codes "saved") false))
    (option (codes "strategy")))
    (option (codes "seed")))
    (option (codes "depth")))
    (option (codes "save"))

-- the command takes the words
unfoldable pub is_taken : List Text → Bool
is_taken words = is_empty (fault_of surw_app words)

-- the text that the words give for a name
unfoldable pub given : Text → List Text → Option Text
given id words = first_of id (matches_of surw_app words)
