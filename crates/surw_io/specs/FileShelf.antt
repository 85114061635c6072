-- The shelf of real files, as far as a contract sees it.
use Rattle.std.specs.Prelude.{ℕ, List, [], Option, Some, None}

-- the open file's bytes that are not yet read and those that the created file holds, where the files tell them, and `None` where there is no such file; and the counts
pub record FilesState : Type 0 where
  pub file : Option (Option (List ℕ))
  pub target : Option (Option (List ℕ))
  pub opens : ℕ
  pub in_faults : ℕ
  pub out_faults : ℕ

-- what there is to read: nothing where no file is open
abbrev pub to_read : Option (Option (List ℕ)) → Option (List ℕ)
to_read None = Some []
to_read (Some told) = told

-- what the created file holds, where it is told
abbrev pub held : Option (Option (List ℕ)) → Option (List ℕ)
held None = None
held (Some told) = told
