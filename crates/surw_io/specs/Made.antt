-- What was made on a shelf, where it tells it: `None` stands for a shelf that tells nothing.
use Rattle.std.specs.Prelude.{◌≡◌, ℕ, List, [], ◌++◌, Option, Some, None}
use Rattle.std.specs.Option.{option_map}
use Rattle.surw_io.specs.Cause.{one_more}

-- a file that was created: its name, and the bytes written to it
pub record CreatedFile : Type 0 where
  pub name : List ℕ
  pub bytes : List ℕ

-- how many creates were answered, and the file created last
pub record Made : Type 0 where
  pub creates : ℕ
  pub last : Option CreatedFile

-- nothing was created
abbrev pub nothing_made : Made
nothing_made = record { creates = 0; last = None }

-- one create more, and the file of this name with these bytes
abbrev pub file_made : Made → List ℕ → List ℕ → Made
file_made made name bytes = record { creates = one_more made.creates; last = Some (record { name = name; bytes = bytes }) }

-- these bytes behind those of the file created last
abbrev pub more_made : Made → List ℕ → Made
more_made made bytes = record made { last = option_map (λ (file : CreatedFile). record file { bytes = file.bytes ++ bytes }) made.last }

-- told with one create more, and the file of this name with these bytes
abbrev pub with_file : Option Made → List ℕ → List ℕ → Option Made
with_file told name bytes = option_map (λ made. file_made made name bytes) told

-- told with one create more, and the file of this name with no bytes
abbrev pub created : Option Made → List ℕ → Option Made
created told name = with_file told name []

-- told with these bytes behind those of the file created last
abbrev pub written : Option Made → List ℕ → Option Made
written told bytes = option_map (λ made. more_made made bytes) told

-- the file of this name was created with a prefix of the bytes, and nothing else
pub record HoldsFilePrefix (before : Option Made) (name bytes : List ℕ) (now : Option Made) : Type 0 where
  pub prefix : List ℕ
  pub rest : List ℕ
  pub whole : prefix ++ rest ≡ bytes
  pub held : now ≡ with_file before name prefix
