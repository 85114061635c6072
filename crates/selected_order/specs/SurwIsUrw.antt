-- Where every event is selected and nothing blocks, the run under SURW is the run under URW with the same selected draws.
use Rattle.std.specs.Prelude.{◌≡◌, List, [], ◌∷◌, length, Option}
use Rattle.seed_draws.specs.Answers.{IsSource, NeverRefuses}
use Rattle.event_class.specs.declared.pickable.Pickable.TheVariants.{Every}
use Rattle.walk_rules.specs.declared.rule.Rule.{Rule}
use Rattle.walk_rules.specs.declared.rule.Rule.TheVariants.{Surw, Urw}
use Rattle.run_rules.specs.declared.entry.Entry.{Entry}
use Rattle.run_rules.specs.declared.verdict.Verdict.{Verdict}
use Rattle.run_rules.specs.Position.{position_of}
use Rattle.run_rules.specs.Run.{IsRunJournal}
use Rattle.run_rules.specs.Setup.{Setup, Script}
use Rattle.run_rules.specs.Verdict.{verdict_at}
use Rattle.selected_order.specs.SurwScript.{IsNeverBlocked}

-- a setup and a script with this rule
abbrev pub setup_under : Rule → Setup → Setup
setup_under rule setup = record setup { rule = rule }

abbrev pub script_under : Rule → Script → Script
script_under rule script = record script { setup = setup_under rule script.setup }

-- the verdict under a rule after a journal
abbrev pub verdict_under : Rule → Script → List Entry → Option Verdict
verdict_under rule script journal = verdict_at (setup_under rule script.setup) (position_of script journal)

-- the run under SURW is the run under URW, with the same verdict
abbrev pub SurwIsUrwOf : Script → Type 0
SurwIsUrwOf script = (journal : List Entry) → script.setup.selection ≡ Every ∷ [] → IsNeverBlocked script
    → IsRunJournal (script_under Surw script) journal
    → IsRunJournal (script_under Urw script) journal × (verdict_under Surw script journal ≡ verdict_under Urw script journal)

-- the other source has to answer, since URW doesn't ask it
abbrev pub SurwIsUrw : Type 0
SurwIsUrw = (script : Script) → length script.setup.counts ≡ script.setup.threads
    → IsSource script.setup.selected.answers → IsSource script.setup.other.answers → NeverRefuses script.setup.other.answers
    → SurwIsUrwOf script
