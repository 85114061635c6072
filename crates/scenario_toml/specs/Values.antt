-- How one value is read.
use Rattle.std.specs.Prelude.{ℕ, ℤ, ◌+◌, ◌||◌, ltb, pos, int_lt, nat_abs, Bool, List, [], ◌∷◌, ◌++◌, Option, None, Some, Result, Ok, Err, if◌then◌else◌, ⊤}
use Rattle.std.specs.List.{list_any}
use Rattle.std.specs.Str.{bytes_eq}
use Rattle.toml.specs.Data.{Data, Items, no_items, item, Members, no_members, member, get_member, as_integer, as_bool, as_str, as_array}
use Rattle.scenario_toml.specs.declared.fault.ScenarioFault.{ScenarioFault}
use Rattle.scenario_toml.specs.declared.fault.ScenarioFault.TheVariants.{Missing, WrongKind, Unknown, Range, Name}
use Rattle.scenario_toml.specs.Faults.{and_then}
use Rattle.scenario_toml.specs.Keys.{NumberRule, key_at}

-- a number from the least to the most
abbrev pub within : List ℕ → ℤ → ℤ → ℤ → Result ℕ ScenarioFault
within key least most kept =
    if int_lt kept least || int_lt most kept then Err (Range key kept least most) else Ok (nat_abs kept)

-- a whole number in its range
abbrev pub number : List ℕ → ℤ → ℤ → Option ℤ → Result ℕ ScenarioFault
number key least most None = Err (WrongKind key)
number key least most (Some kept) = within key least most kept

-- the default, where there is one
abbrev pub or_missing : List ℕ → Option ℕ → Result ℕ ScenarioFault
or_missing key None = Err (Missing key)
or_missing key (Some default) = Ok default

-- a whole number in its range, or what stands for it where it is absent
abbrev pub number_or : List ℕ → NumberRule → Option Data → Result ℕ ScenarioFault
number_or key rule None = or_missing key rule.default
number_or key rule (Some d) = number key rule.least rule.most (as_integer d)

-- the number of a key in a table, where the path stands before the key's name
abbrev pub number_in : List ℕ → Members → NumberRule → Result ℕ ScenarioFault
number_in path table rule = number_or (path ++ rule.name) rule (get_member rule.name table)

-- such a number, and none where it is absent
abbrev pub optional_number : List ℕ → NumberRule → Option Data → Result (Option ℕ) ScenarioFault
optional_number key rule None = Ok None
optional_number key rule (Some d) = and_then (number key rule.least rule.most (as_integer d)) (λ n. Ok (Some n))

-- the number of a key that may be absent
abbrev pub optional_number_in : List ℕ → Members → NumberRule → Result (Option ℕ) ScenarioFault
optional_number_in path table rule = optional_number (path ++ rule.name) rule (get_member rule.name table)

-- what a value is seen as, or that it has another kind
abbrev pub of_kind : {A : Type 0} → List ℕ → Option A → Result A ScenarioFault
of_kind key None = Err (WrongKind key)
of_kind key (Some value) = Ok value

-- a value that has to be there
abbrev pub required : List ℕ → Option Data → Result Data ScenarioFault
required key None = Err (Missing key)
required key (Some d) = Ok d

-- a boolean, or what stands for it where it is absent
abbrev pub boolean_or : List ℕ → Bool → Option Data → Result Bool ScenarioFault
boolean_or key default None = Ok default
boolean_or key default (Some d) = of_kind key (as_bool d)

-- the boolean of a key in a table
abbrev pub boolean_in : List ℕ → Members → List ℕ → Bool → Result Bool ScenarioFault
boolean_in path table name default = boolean_or (path ++ name) default (get_member name table)

-- a text that has to be there
abbrev pub text_in : List ℕ → Members → List ℕ → Result (List ℕ) ScenarioFault
text_in path table name = and_then (required (path ++ name) (get_member name table)) (λ d. of_kind (path ++ name) (as_str d))

-- what a text stands for
abbrev pub meant : {A : Type 0} → List ℕ → List ℕ → Option A → Result A ScenarioFault
meant key text None = Err (Name key text)
meant key text (Some value) = Ok value

-- how many items there are
abbrev pub count : Items → ℕ
count no_items = 0
count (item d ds) = count ds + 1

-- an array of at most so many items
abbrev pub few : List ℕ → ℕ → Items → Result Items ScenarioFault
few key most ds = if ltb most (count ds) then Err (Range key (pos (count ds)) (pos 0) (pos most)) else Ok ds

-- a value that is such an array
abbrev pub array : List ℕ → ℕ → Data → Result Items ScenarioFault
array key most d = and_then (of_kind key (as_array d)) (few key most)

-- the items in order, each by its place
unfoldable pub each : {A : Type 0} → (ℕ → Data → Result A ScenarioFault) → ℕ → Items → Result (List A) ScenarioFault
each read place no_items = Ok []
each read place (item d ds) = and_then (read place d) (λ value. and_then (each read (place + 1) ds) (λ values. Ok (value ∷ values)))

-- an array of at most so many items, each read by the array's key and its place
abbrev pub list : {A : Type 0} → (List ℕ → ℕ → Data → Result A ScenarioFault) → List ℕ → ℕ → Data
    → Result (List A) ScenarioFault
list read key most d = and_then (array key most d) (each (read key) 0)

-- such an array, or what stands for it where it is absent
abbrev pub list_or : {A : Type 0} → List A → (List ℕ → ℕ → Data → Result A ScenarioFault) → List ℕ → ℕ → Option Data
    → Result (List A) ScenarioFault
list_or default read key most None = Ok default
list_or default read key most (Some d) = list read key most d

-- a number from 0 on as an item
abbrev pub number_item : ℤ → List ℕ → ℕ → Data → Result ℕ ScenarioFault
number_item most key place d = number (key_at key place) (pos 0) most (as_integer d)

-- a text as an item
abbrev pub text_item : {A : Type 0} → (List ℕ → Option A) → List ℕ → ℕ → Data → Result A ScenarioFault
text_item read key place d = and_then (of_kind (key_at key place) (as_str d)) (λ text. meant (key_at key place) text (read text))

-- the first key of a table that isn't among these names; keys ascend, so it is the least in byte order
abbrev pub first_unknown : List (List ℕ) → Members → Option (List ℕ)
first_unknown names no_members = None
first_unknown names (member key d table) = if list_any (λ name. bytes_eq name key) names then first_unknown names table else Some key

-- the fault of such a key, where there is one
abbrev pub or_unknown : List ℕ → Option (List ℕ) → Result ⊤ ScenarioFault
or_unknown path None = Ok tt
or_unknown path (Some key) = Err (Unknown (path ++ key))

-- a table has no key but these
abbrev pub only : List ℕ → List (List ℕ) → Members → Result ⊤ ScenarioFault
only path names table = or_unknown path (first_unknown names table)
