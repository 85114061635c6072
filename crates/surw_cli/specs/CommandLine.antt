-- What a process is given for words.
use Rattle.std.specs.Prelude.{ℕ, List, [], map, Result, Ok, Err, String, Vec, string_bytes}
use Rattle.std.specs.declared.alloc.Global.{Global}
use Rattle.std.specs.declared.io.Error.{Error}

-- the words that are answered: where some are no text, none
abbrev pub given_words : Result (Vec (String Global) Global) Error → List (List ℕ)
given_words (Ok words) = map string_bytes words.items
given_words (Err error) = []
