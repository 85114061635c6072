-- The laws of seeded sources.
use Rattle.std.proofs.Common.{◌≡◌, ℕ, ◌*◌, ◌/◌, ◌==◌, ◌≤◌, ◌<◌, Bool, true, false, cond, refl, sym, subst, Option, Some, None, inl, inr, IfOk, IfErr, arith, rules}
use Rattle.std.specs.List.{position}
use Rattle.std.proofs.lemmas.Bool.{cases_eq, ltb-true}
use Rattle.std.proofs.lemmas.List.Quantifiers.{position-Some}
use Rattle.seed_draws.specs.Share.{is_accepted, share}
use Rattle.seed_draws.specs.Seeded.{Progress, Counted, SeededState, is_same_progress, is_same_seeded, next_words, drawn, drawn_at, seeded_answer, seeded_after}

draw_below : (bound word : ℕ) → is_accepted bound word ≡ true → word / share bound < bound
draw_below bound word accepted = let less : word < share bound * bound = ltb-true word (share bound * bound) accepted in search (rules, arith, less)

drawn_at_below : (bound : ℕ) (s : SeededState) → 1 ≤ bound → (place : Option ℕ) → position (is_accepted bound) (next_words s) ≡ place
    → (drawn_at bound s place).0 < bound
drawn_at_below bound s some (Some k) is = draw_below bound _ (position-Some (is_accepted bound) (next_words s) k 0 is).1
drawn_at_below bound s some None is = search (rules, arith, some)

-- what is drawn is below the bound
pub drawn_is_below : (bound : ℕ) (s : SeededState) → 1 ≤ bound → (drawn bound s).0 < bound
unfolding drawn
drawn_is_below bound s some = drawn_at_below bound s some (position (is_accepted bound) (next_words s)) refl

-- a draw of a seeded source is below its bound
pub seeded_below : (s : SeededState) (bound : ℕ) → 1 ≤ bound → IfOk (seeded_answer s bound) (λ draw. draw < bound)
seeded_below s bound some = elim (cases_eq bound 1) [
  | inl one ↦ grind (arith, one)
  | inr other ↦
      let no : bound == 1 ≡ false = search (rules, other) in
      subst (λ (b : Bool). (cond b (0, s) (drawn bound s)).0 < bound) (sym no) (drawn_is_below bound s some)
]

-- a seeded source never refuses
pub seeded_kept : (s : SeededState) (bound : ℕ) → IfErr (seeded_answer s bound) (λ _. seeded_after s bound ≡ s)
seeded_kept s bound = tt

same_progress : (p q : Progress) → is_same_progress p q ≡ true → p ≡ q
same_progress (Counted a) (Counted b) same = grind arith
same_progress _ _ same = cc

-- seeded sources that count as one are equal
pub same_seeded_is_equal : (s other : SeededState) → is_same_seeded s other ≡ true → s ≡ other
same_seeded_is_equal s other same = grind (arith, same_progress s.progress other.progress)
