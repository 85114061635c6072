-- How the words, all numbers below 2 ^ 64, are shared out among the draws below a bound: each draw has equally many, one
-- after another, and the few words that are left over are not accepted.
use Rattle.std.specs.Prelude.{ℕ, ◌*◌, ◌/◌, ◌%◌, ◌^◌, ltb, Bool, Option, Some, None, if◌then◌else◌}

-- how many words each draw below a bound has
abbrev pub share : ℕ → ℕ
share bound = 2 ^ 64 / bound

-- whether a word gives a draw
abbrev pub is_accepted : ℕ → ℕ → Bool
is_accepted bound word = ltb word (share bound * bound)

-- the draw and the rest of an accepted word: the rest is its place among the words of that draw
abbrev pub split_of : ℕ → ℕ → Option (ℕ × ℕ)
split_of bound word = if is_accepted bound word then Some (word / share bound, word % share bound) else None
