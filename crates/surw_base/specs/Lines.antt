-- Lines, and numbers in them.
use Rattle.std.specs.Prelude.{◌≡◌, ℕ, ◌^◌, ◌<◌, List, [], ◌∷◌, ◌++◌, All}
use Rattle.std.specs.List.{flat_map}
use Rattle.std.specs.Fmt.{decimal}

-- a line, which ends with a line feed (10)
abbrev pub line : List ℕ → List ℕ
line text = text ++ 10 ∷ []

-- numbers in decimal, each behind a space (32)
abbrev pub items_text : List ℕ → List ℕ
items_text numbers = flat_map (λ n. 32 ∷ decimal n) numbers

-- a word and then numbers
abbrev pub list_text : List ℕ → List ℕ → List ℕ
list_text word numbers = word ++ items_text numbers

-- the line of a word and then numbers
unfoldable pub list_line : List ℕ → List ℕ → List ℕ
list_line word numbers = line (list_text word numbers)

-- the line of a word and then one number
abbrev pub number_line : List ℕ → ℕ → List ℕ
number_line word n = list_line word (n ∷ [])

-- the text is a word and these numbers, each below 2 ^ 64
pub record IsListText (word numbers text : List ℕ) : Type 0 where
  pub spelled : text ≡ list_text word numbers
  pub below : All (λ n. n < 2 ^ 64) numbers

-- the text is a space, a number below 2 ^ 64 and then the rest
pub record IsItem (text : List ℕ) (number : ℕ) (rest : List ℕ) : Type 0 where
  pub spelled : text ≡ 32 ∷ (decimal number ++ rest)
  pub below : number < 2 ^ 64
