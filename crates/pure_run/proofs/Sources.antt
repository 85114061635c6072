-- What a running source answers and what is left of it, by the bounds that were asked so far.
use Rattle.std.proofs.Common.{◌≡◌, ℕ, Bool, true, false, cond, IsOk, List, [], ◌∷◌, ◌++◌, flat_map, ap, sym, subst, ◌∙◌}
use Rattle.std.proofs.lemmas.List.{append-nil, flat_map_more}
use Rattle.seed_draws.proofs.Asked.{HasDraws, after_bounds-append, answers-after, has-draws}
use Rattle.seed_draws.specs.Answers.{Answering, after_bounds, answers, answers_after}
use Rattle.seed_draws.specs.declared.draws.Draws.{Ghosts}
use Rattle.run_rules.specs.Bounds.{bounds_over}
use Rattle.run_rules.specs.Position.{Position}

bounds-more : (bounds_at : Position → List ℕ) (xs : List Position) (x : Position) (drawn : Bool)
    → bounds_over bounds_at xs ++ cond drawn (bounds_at x) [] ≡ bounds_over bounds_at (cond drawn (xs ++ x ∷ []) xs)
bounds-more bounds_at xs x true = flat_map_more bounds_at [] xs x
bounds-more bounds_at xs x false = append-nil (flat_map bounds_at xs)

module _ {S : Type 0} (draws : Ghosts S) (source : S) (answering : Answering)
    (from : (bounds : List ℕ) → answering bounds ≡ answers draws source bounds) where
  had : (asked : List ℕ) → IsOk (answering asked) → HasDraws (answers draws source asked)
  had asked ok = has-draws (answers draws source asked) (subst (λ r. IsOk r) (from asked) ok)

  -- after some bounds that it answered, it answers as the source that it was does after them
  pub rest-answers : (asked : List ℕ) → IsOk (answering asked) → answers draws (after_bounds draws source asked) ≡ answers_after answering asked
  rest-answers asked ok =
      let all = had asked ok in
      (λ i bounds. answers-after draws source asked all.draws all.is bounds i)
      ∙ (λ i. answers_after (λ bounds. sym (from bounds) i) asked)

  -- what is left after the bounds at one position more, or at no more
  pub asked-more : (bounds_at : Position → List ℕ) (xs : List Position) (x : Position) (drawn : Bool) → IsOk (answering (bounds_over bounds_at xs))
      → after_bounds draws (after_bounds draws source (bounds_over bounds_at xs)) (cond drawn (bounds_at x) [])
      ≡ after_bounds draws source (bounds_over bounds_at (cond drawn (xs ++ x ∷ []) xs))
  asked-more bounds_at xs x drawn ok =
      let all = had (bounds_over bounds_at xs) ok in
      sym (after_bounds-append draws source (bounds_over bounds_at xs) (cond drawn (bounds_at x) []) all.draws all.is)
      ∙ ap (λ bounds. after_bounds draws source bounds) (bounds-more bounds_at xs x drawn)
