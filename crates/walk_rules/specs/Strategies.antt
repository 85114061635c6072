-- The strategy of each rule. Beside it only what limits PCT's depth and what a walk keeps for PCT look at the rule.
use Rattle.std.specs.Prelude.{ℕ, Bool, List, Option, None, Some, slice_get}
use Rattle.seed_draws.specs.declared.draws.Draws.{Ghosts}
use Rattle.seed_draws.specs.Answers.{Answering, answers}
use Rattle.walk_rules.specs.declared.asked.Asked.{Asked}
use Rattle.walk_rules.specs.declared.rule.Rule.{Rule}
use Rattle.walk_rules.specs.declared.rule.Rule.TheVariants.{Urw, Surw, Pct, Plain, Follow}
use Rattle.walk_rules.specs.declared.seen.Seen.{Seen}
use Rattle.walk_rules.specs.Follow.{follow}
use Rattle.walk_rules.specs.Pct.{pct}
use Rattle.walk_rules.specs.Plain.{plain}
use Rattle.walk_rules.specs.State.{WalkState}
use Rattle.walk_rules.specs.Strategy.{OnePick, Strategy}
use Rattle.walk_rules.specs.Surw.{surw}
use Rattle.walk_rules.specs.Urw.{urw}

abbrev pub strategy : Rule → Strategy
strategy Urw = urw
strategy Surw = surw
strategy (Pct depth) = pct depth
strategy Plain = plain
strategy (Follow list) = follow list

-- whether a rule takes from the numbers left
abbrev pub counts_down : Rule → Bool
counts_down rule = (strategy rule).counts_down

-- whether a rule wants every event selected
abbrev pub wants_every : Rule → Bool
wants_every rule = (strategy rule).wants_every

-- the list of entries that a rule asks for, where it follows one
abbrev pub asked_list : Rule → Option (List Asked)
asked_list rule = (strategy rule).asked

-- the entry of such a list at a place
abbrev pub entry_in : Option (List Asked) → ℕ → Option Asked
entry_in None k = None
entry_in (Some list) k = slice_get list k

-- the entry that a rule asks for at a place
abbrev pub asked_at : Rule → ℕ → Option Asked
asked_at rule k = entry_in (asked_list rule) k

-- the pick of a walk, by the answers of the two sources
abbrev pub pick_by : WalkState → List Seen → Answering → Answering → OnePick
pick_by walk view selected other = (strategy walk.rule).pick walk view selected other

-- and by the two sources themselves
abbrev pub pick_from : {S O : Type 0} → Ghosts S → Ghosts O → WalkState → List Seen → S → O → OnePick
pick_from selected_draws other_draws walk view selected other =
    pick_by walk view (answers selected_draws selected) (answers other_draws other)
