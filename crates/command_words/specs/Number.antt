-- The numbers of words.
use Rattle.std.specs.Prelude.{ℕ, ◌^◌, ◌&&◌, leb, ltb, Bool, List, length, Option, Some, None, cond, option_and_then}
use Rattle.std.specs.Str.{all_ascii_digits}
use Rattle.std.specs.Str.Parse.{digits_value}
use Rattle.surw_base.specs.declared.limits.TheConstants.{DEPTH}

-- a text is 1 to 20 digits that write a number below 2 ^ 64; zeros may stand first
abbrev pub is_number : List ℕ → Bool
is_number text = all_ascii_digits text && leb 1 (length text) && leb (length text) 20 && ltb (digits_value 10 text) (2 ^ 64)

-- the number that a text writes
unfoldable pub number_of : List ℕ → Option ℕ
number_of text = cond (is_number text) (Some (digits_value 10 text)) None

-- a number from 1 to `DEPTH`
abbrev pub depth_in : ℕ → Option ℕ
depth_in number = cond (leb 1 number && leb number DEPTH) (Some number) None

-- the depth that a text writes
abbrev pub depth_of : List ℕ → Option ℕ
depth_of text = option_and_then depth_in (number_of text)
