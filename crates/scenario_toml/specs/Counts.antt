-- The key `counts`.
use Rattle.std.specs.Prelude.{List, ℕ, ◌==◌, pos, Option, None, Some, Result, Ok, Err, codes, length, sum, nat_le, if◌then◌else◌}
use Rattle.std.specs.Str.{bytes_eq}
use Rattle.surw_base.specs.declared.limits.TheConstants.{STEPS}
use Rattle.toml.specs.Data.{Data, Items, as_array, as_str}
use Rattle.scenario_toml.specs.declared.counts_rule.CountsRule.{CountsRule}
use Rattle.scenario_toml.specs.declared.counts_rule.CountsRule.TheVariants.{Profile, Given}
use Rattle.scenario_toml.specs.declared.fault.ScenarioFault.{ScenarioFault}
use Rattle.scenario_toml.specs.declared.fault.ScenarioFault.TheVariants.{WrongKind, Range, Name}
use Rattle.scenario_toml.specs.Faults.{and_then}
use Rattle.scenario_toml.specs.Values.{each, number_item}

-- a count
abbrev pub count_item : List ℕ → ℕ → Data → Result ℕ ScenarioFault
count_item = number_item (pos STEPS)

-- the one word that `counts` can have, by which none are given
abbrev pub counts_word : List ℕ → Result (Option (List ℕ)) ScenarioFault
counts_word text = if bytes_eq (codes "profile") text then Ok None else Err (Name (codes "counts") text)

-- the counts of an array, of which there are as many as there are
abbrev pub counts_list : Items → Result (Option (List ℕ)) ScenarioFault
counts_list ds = and_then (each (count_item (codes "counts")) 0 ds) (λ counts. Ok (Some counts))

-- an array or a text
abbrev pub items_or_text : Option Items → Option (List ℕ) → Result (Option (List ℕ)) ScenarioFault
items_or_text (Some ds) text = counts_list ds
items_or_text None (Some text) = counts_word text
items_or_text None None = Err (WrongKind (codes "counts"))

-- the counts that are given, and none where the key is absent
abbrev pub counts : Option Data → Result (Option (List ℕ)) ScenarioFault
counts None = Ok None
counts (Some d) = items_or_text (as_array d) (as_str d)

-- a sum that isn't too large
abbrev pub bounded : List ℕ → Result CountsRule ScenarioFault
bounded counts =
    if nat_le (sum counts) STEPS then Ok (Given counts) else Err (Range (codes "counts") (pos (sum counts)) (pos 0) (pos STEPS))

-- one count for each thread
abbrev pub for_each : List ℕ → ℕ → Result CountsRule ScenarioFault
for_each counts threads =
    if length counts == threads
    then bounded counts
    else Err (Range (codes "counts") (pos (length counts)) (pos threads) (pos threads))

-- the rule: given counts, which have to fit the threads, and else those of a profile
abbrev pub counts_rule : Option (List ℕ) → ℕ → Result CountsRule ScenarioFault
counts_rule None threads = Ok Profile
counts_rule (Some counts) threads = for_each counts threads
