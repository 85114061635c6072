-- The routines of a made scenario, pushed one after another.
use Rattle.std.proofs.Common.{◌≡◌, ℕ, ◌+◌, List, [], ◌∷◌, ◌++◌, length, refl, sym, ◌∙◌, arith}
use Rattle.std.proofs.lemmas.List.FromFn.{length-map-range_with_len, map-range_with_len_more}
use Rattle.routine_kit.specs.declared.any_routine.AnyRoutine.{AnyRoutine}
use Rattle.scenario_toml.specs.Made.{made_routine, made_routines}

pub made-none : (number : ℕ) → [] ≡ made_routines number 0
unfolding made_routines
made-none number = refl

pub made-more : (number n : ℕ) (items now : List AnyRoutine) (routine : AnyRoutine)
    → items ≡ made_routines number n → now ≡ items ++ routine ∷ [] → routine ≡ made_routine number n → now ≡ made_routines number (n + 1)
unfolding made_routines
made-more number n items now routine so_far more is =
    more ∙ (λ i. so_far i ++ is i ∷ []) ∙ sym (map-range_with_len_more (made_routine number) 0 n n (omega arith))

pub length-made : (number n : ℕ) → length (made_routines number n) ≡ n
unfolding made_routines
length-made number n = length-map-range_with_len (made_routine number) 0 n
