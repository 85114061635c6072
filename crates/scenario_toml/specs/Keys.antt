-- The keys whose values are whole numbers, one line each: its name, the least and the most number, and the default.
-- Those that one kind of thread has stand beside that kind.
use Rattle.std.specs.Prelude.{ℕ, ℤ, ◌-◌, ◌^◌, pos, List, ◌++◌, ◌∷◌, Option, None, Some, codes}
use Rattle.std.specs.Fmt.{decimal}
use Rattle.surw_base.specs.declared.limits.TheConstants.{STEPS, DEPTH, CELLS, LOCKS, FRAMES, PAGES, SLOTS}

-- what holds of such a key; where there is no default it has to be there, or nothing stands for it
pub record NumberRule : Type 0 where
  pub name : List ℕ
  pub least : ℤ
  pub most : ℤ
  pub default : Option ℕ

-- one line
abbrev pub rule : List ℕ → ℕ → ℕ → Option ℕ → NumberRule
rule name least most default = record { name = name; least = pos least; most = pos most; default = default }

-- the greatest number that a file can have
abbrev pub greatest : ℕ
greatest = 2 ^ 63 - 1

-- the top table
abbrev pub max_steps : NumberRule
max_steps = rule (codes "max_steps") 1 STEPS (Some STEPS)

abbrev pub seed : NumberRule
seed = rule (codes "seed") 0 greatest (Some 0)

abbrev pub depth : NumberRule
depth = rule (codes "depth") 1 DEPTH (Some 3)

-- the table `world`
abbrev pub cells : NumberRule
cells = rule (codes "cells") 0 CELLS (Some 0)

abbrev pub locks : NumberRule
locks = rule (codes "locks") 0 LOCKS (Some 0)

abbrev pub frames : NumberRule
frames = rule (codes "frames") 0 FRAMES (Some 0)

abbrev pub pages : NumberRule
pages = rule (codes "pages") 0 PAGES (Some 0)

abbrev pub slots : NumberRule
slots = rule (codes "slots") 0 SLOTS (Some 0)

-- a thread that uses a page
abbrev pub page : NumberRule
page = rule (codes "page") 0 (PAGES - 1) None

-- the name of an array's item: the array's name, a dot and the item's place
abbrev pub key_at : List ℕ → ℕ → List ℕ
key_at key place = key ++ 46 ∷ decimal place
