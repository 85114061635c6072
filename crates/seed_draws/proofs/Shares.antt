-- Which words are accepted.
use Rattle.std.proofs.Common.{◌≡◌, ℕ, ◌*◌, ◌/◌, ◌<◌, ◌≤◌, ◌^◌, true, false, arith}
use Rattle.std.proofs.lemmas.Bool.{lt-ltb, le-ltb}
use Rattle.std.proofs.Math.Nat.{div-lt_iff_lt-mul, mul-div-le, mul-le-mul_left}
use Rattle.std.proofs.lemmas.Nat.{le-div}
use Rattle.seed_draws.specs.Share.{is_accepted, share}

-- each draw below a bound that is a number of the machine has a word
pub share-some : (bound : ℕ) → 1 ≤ bound → bound < 2 ^ 64 → 1 ≤ share bound
share-some bound some small = le-div 1 (2 ^ 64) bound (omega (arith, some)) (omega (arith, small))

-- a word is accepted where its quotient is below the bound
pub accepted : (bound word : ℕ) → 1 ≤ share bound → word / share bound < bound → is_accepted bound word ≡ true
accepted bound word some less =
    lt-ltb word (share bound * bound) (omega (arith, (div-lt_iff_lt-mul {k = share bound} {x = word} {y = bound} some).0 less))

pub left_over : (bound word : ℕ) → 1 ≤ share bound → bound ≤ word / share bound → is_accepted bound word ≡ false
left_over bound word some past =
    le-ltb word (share bound * bound) (omega (arith, mul-div-le word (share bound), mul-le-mul_left (share bound) past))
