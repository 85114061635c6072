-- What an item of a selection is called, and the item that a text names.
use Rattle.std.specs.Prelude.{◌≡◌, ℕ, ◌^◌, ◌<◌, ltb, Bool, true, ◌&&◌, List, [], ◌∷◌, ◌++◌, Option, codes}
use Rattle.std.specs.List.{find}
use Rattle.std.specs.Fmt.{decimal}
use Rattle.std.specs.Str.{bytes_eq}
use Rattle.surw_base.specs.Tokens.{tokens, number_at}
use Rattle.event_class.specs.declared.event.Class.TheVariants.{Lock, Cell, Cache, Disk, Log, Check}
use Rattle.event_class.specs.declared.pickable.Pickable.{Pickable}
use Rattle.event_class.specs.declared.pickable.Pickable.TheVariants.{Every, Of, LockNo, CellNo}

-- the text of an item
abbrev pub pickable_text : Pickable → List ℕ
pickable_text Every = codes "all"
pickable_text (Of Lock) = codes "lock"
pickable_text (Of Cell) = codes "cell"
pickable_text (Of Cache) = codes "cache"
pickable_text (Of Disk) = codes "disk"
pickable_text (Of Log) = codes "log"
pickable_text (Of Check) = codes "check"
pickable_text (LockNo l) = codes "lock " ++ decimal l
pickable_text (CellNo c) = codes "cell " ++ decimal c

-- the number of an item is below 2 ^ 64
abbrev pub IsSmall : Pickable → Type 0
IsSmall (LockNo l) = l < 2 ^ 64
IsSmall (CellNo c) = c < 2 ^ 64
IsSmall _ = Unit {0}

-- the bytes are the text of the item
pub record IsPickableText (bytes : List ℕ) (item : Pickable) : Type 0 where
  pub text : bytes ≡ pickable_text item
  pub below : IsSmall item

-- likewise, as a test
abbrev pub is_small : Pickable → Bool
is_small (LockNo l) = ltb l (2 ^ 64)
is_small (CellNo c) = ltb c (2 ^ 64)
is_small _ = true

abbrev pub is_pickable_text : List ℕ → Pickable → Bool
is_pickable_text text item = bytes_eq (pickable_text item) text && is_small item

-- the items of any name, where a number is the one at the second of these tokens
abbrev pub pickables : List (List ℕ) → List Pickable
pickables parts = Every ∷ Of Lock ∷ Of Cell ∷ Of Cache ∷ Of Disk ∷ Of Log ∷ Of Check ∷ LockNo (number_at parts 1) ∷ CellNo (number_at parts 1) ∷ []

-- the item of which this is the text
unfoldable pub pickable_of : List ℕ → Option Pickable
pickable_of text = find (is_pickable_text text) (pickables (tokens text))
