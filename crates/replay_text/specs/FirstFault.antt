-- The faults of texts: what is the first that is wrong.
use Rattle.std.specs.Prelude.{◌≡◌, ◌≢◌, ◌⊎◌, ℕ, ◌+◌, ◌<◌, ◌≤◌, List, [], ◌∷◌, ◌++◌, All, length, map}
use Rattle.surw_base.specs.declared.limits.TheConstants.{STEPS}
use Rattle.walk_rules.specs.declared.asked.Asked.{Asked}
use Rattle.replay_text.specs.declared.replay_fault.ReplayFault.{ReplayFault}
use Rattle.replay_text.specs.declared.replay_fault.ReplayFault.TheVariants.{Header, Line, TooMany, NoEnd, OutOfMemory}
use Rattle.replay_text.specs.Lines.{whole_lines, unfinished}
use Rattle.replay_text.specs.SavedRun.{IsEntry, IsName}
use Rattle.replay_text.specs.SavedText.{IsEntryText, IsNameText, end_text, entry_text, header, name_text}

-- behind the first line stand these whole lines, and this rest
pub record HasLines (text : List ℕ) (lines : List (List ℕ)) (rest : List ℕ) : Type 0 where
  pub body : List ℕ
  pub first : text ≡ header ++ body
  pub whole : whole_lines body ≡ lines
  pub left : unfinished body ≡ rest

-- behind the first line stand that of a name, those of these entries, and then these lines and this rest
pub record HasEntries (text : List ℕ) (entries : List Asked) (lines : List (List ℕ)) (rest : List ℕ) : Type 0 where
  pub name : List ℕ
  pub named : IsName name
  pub each : All IsEntry entries
  pub stand : HasLines text (name_text name ∷ (map entry_text entries ++ lines)) rest

-- the second line is that of no name
pub record IsWrongName (text : List ℕ) : Type 0 where
  pub line : List ℕ
  pub lines : List (List ℕ)
  pub rest : List ℕ
  pub stand : HasLines text (line ∷ lines) rest
  pub wrong : (name : List ℕ) → IsNameText line name → ⊥

-- the line of this number is neither that of an entry nor that of the end
pub record IsWrongLine (text : List ℕ) (number : ℕ) : Type 0 where
  pub entries : List Asked
  pub line : List ℕ
  pub lines : List (List ℕ)
  pub rest : List ℕ
  pub stand : HasEntries text entries (line ∷ lines) rest
  pub few : length entries ≤ STEPS
  pub no_entry : (entry : Asked) → IsEntryText line entry → ⊥
  pub no_end : line ≢ end_text (length entries)
  pub numbered : number ≡ length entries + 3

-- something stands behind the line of the end, from the line of this number on
pub record IsMoreBehind (text : List ℕ) (number : ℕ) : Type 0 where
  pub entries : List Asked
  pub lines : List (List ℕ)
  pub rest : List ℕ
  pub stand : HasEntries text entries (end_text (length entries) ∷ lines) rest
  pub few : length entries ≤ STEPS
  pub more : (0 < length lines) ⊎ (0 < length rest)
  pub numbered : number ≡ length entries + 4

-- there are lines of more than `STEPS` entries
pub record AreTooMany (text : List ℕ) : Type 0 where
  pub entries : List Asked
  pub lines : List (List ℕ)
  pub rest : List ℕ
  pub stand : HasEntries text entries lines rest
  pub many : STEPS < length entries

-- the text ends behind the lines of some entries
pub record EndsEarly (text : List ℕ) : Type 0 where
  pub entries : List Asked
  pub rest : List ℕ
  pub stand : HasEntries text entries [] rest
  pub few : length entries ≤ STEPS

-- the first that is wrong
abbrev pub IsFault : List ℕ → ReplayFault → Type 0
IsFault text Header = (body : List ℕ) → text ≡ header ++ body → ⊥
IsFault text (Line number) = ((number ≡ 2) × IsWrongName text) ⊎ (IsWrongLine text number ⊎ IsMoreBehind text number)
IsFault text (TooMany number) = (number ≡ STEPS + 3) × AreTooMany text
IsFault text NoEnd = ((rest : List ℕ) × HasLines text [] rest) ⊎ EndsEarly text
IsFault text OutOfMemory = ⊥
