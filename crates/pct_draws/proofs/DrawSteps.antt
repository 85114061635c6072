-- The answers of a source and what it is after them, a bound at a time.
use Rattle.std.proofs.Common.{◌≡◌, ℕ, List, [], ◌∷◌, ◌++◌, Result, Ok, Err, refl}
use Rattle.seed_draws.specs.Answers.{after_bounds, answers, unless_refused, with_first}
use Rattle.seed_draws.specs.declared.draw_fault.DrawFault.{DrawFault}
use Rattle.seed_draws.specs.declared.draws.Draws.{Ghosts}

-- answers in front of those that follow
abbrev pub prepended : List ℕ → Result (List ℕ) DrawFault → Result (List ℕ) DrawFault
prepended prefix (Ok draws) = Ok (prefix ++ draws)
prepended prefix (Err fault) = Err fault

pub prepended-none : (r : Result (List ℕ) DrawFault) → prepended [] r ≡ r
prepended-none (Ok draws) = refl
prepended-none (Err fault) = refl

module _ {S : Type 0} (draws : Ghosts S) where
  pub answers-cons : (source : S) (bound : ℕ) (bounds : List ℕ)
      → answers draws source (bound ∷ bounds) ≡ with_first (draws.answer source bound) (answers draws (draws.after_answer source bound) bounds)
  unfolding answers
  answers-cons source bound bounds = refl

  pub answers-nil : (source : S) → answers draws source [] ≡ Ok []
  unfolding answers
  answers-nil source = refl

  pub after-cons : (source : S) (bound : ℕ) (bounds : List ℕ)
      → after_bounds draws source (bound ∷ bounds) ≡ unless_refused (draws.answer source bound) (draws.after_answer source bound)
      (after_bounds draws (draws.after_answer source bound) bounds)
  unfolding after_bounds
  after-cons source bound bounds = refl

  pub after-nil : (source : S) → after_bounds draws source [] ≡ source
  unfolding after_bounds
  after-nil source = refl
