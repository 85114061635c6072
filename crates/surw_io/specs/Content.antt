-- What the outside holds, where a device tells it: `None` stands for a device that tells nothing.
use Rattle.std.specs.Prelude.{◌≡◌, ℕ, List, [], ◌++◌, Option, Some, None}
use Rattle.std.specs.Option.{option_map}

-- what a name stands for
pub data Entry : Type 0 where
  File : List ℕ → Entry
  Missing : Entry

-- the bytes of a file, where it is told and there
abbrev pub content_of : Option Entry → Option (List ℕ)
content_of None = None
content_of (Some (File bytes)) = Some bytes
content_of (Some Missing) = None

-- these may be the bytes of the file: it is there, and where it is told they are the told ones
abbrev pub IsFileOf : Option Entry → List ℕ → Type 0
IsFileOf None bytes = Unit {0}
IsFileOf (Some (File held)) bytes = held ≡ bytes
IsFileOf (Some Missing) bytes = ⊥

-- what is told, with these bytes behind it
abbrev pub with_end : Option (List ℕ) → List ℕ → Option (List ℕ)
with_end told bytes = option_map (λ held. held ++ bytes) told

-- what is told, with these bytes before it
abbrev pub with_prefix : List ℕ → Option (List ℕ) → Option (List ℕ)
with_prefix bytes told = option_map (λ rest. bytes ++ rest) told

-- told as empty
abbrev pub emptied : Option (List ℕ) → Option (List ℕ)
emptied told = option_map (λ _. []) told

-- nothing is left, where it is told
abbrev pub IsAtEnd : Option (List ℕ) → Type 0
IsAtEnd None = Unit {0}
IsAtEnd (Some rest) = rest ≡ []

-- a prefix of the bytes was added, and nothing else
pub record HoldsPrefix (before : Option (List ℕ)) (bytes : List ℕ) (now : Option (List ℕ)) : Type 0 where
  pub prefix : List ℕ
  pub rest : List ℕ
  pub whole : prefix ++ rest ≡ bytes
  pub held : now ≡ with_end before prefix
