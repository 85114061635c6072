-- The draws of change points, one after another.
use Rattle.std.proofs.Common.{◌≡◌, ℕ, zero, suc, ◌+◌, ◌-◌, ◌<◌, ◌≤◌, List, [], ◌∷◌, ◌++◌, length, replicate, Result, Ok, Err, refl, ap, sym, ◌∙◌, arith}
use Rattle.std.proofs.lemmas.List.{append_assoc, append-nil, length_push}
use Rattle.pct_draws.proofs.DrawSteps.{after-cons, after-nil, answers-cons, answers-nil, prepended, prepended-none}
use Rattle.seed_draws.specs.Answers.{after_bounds, answers, unless_refused, with_first}
use Rattle.seed_draws.specs.declared.draw_fault.DrawFault.{DrawFault}
use Rattle.seed_draws.specs.declared.draws.Draws.{Ghosts}

point-first : (points : List ℕ) (draw : ℕ) (r : Result (List ℕ) DrawFault) → prepended points (with_first (Ok draw) r) ≡ prepended (points ++ draw ∷ []) r
point-first points draw (Ok draws) = ap Ok (sym (append_assoc points (draw ∷ []) draws))
point-first points draw (Err fault) = refl

replicate-more : (n events : ℕ) → 0 < n → replicate n events ≡ events ∷ replicate (n - 1) events
replicate-more zero events some = absurd (omega (arith, some))
replicate-more (suc n) events some = let same : n ≡ suc n - 1 = omega arith in ap (λ k. events ∷ replicate k events) same

module _ {S : Type 0} (draws : Ghosts S) where
  -- change points that are drawn so far
  pub record ArePointsSoFar (before now : S) (events many : ℕ) (points : List ℕ) (point : ℕ) : Type 0 where
    pub left : ℕ
    pub found : prepended points (answers draws now (replicate left events)) ≡ answers draws before (replicate many events)
    pub source : after_bounds draws now (replicate left events) ≡ after_bounds draws before (replicate many events)
    pub many_is : length points + left ≡ many
    pub point_is : length points + 1 ≡ point

  pub points-start : (before : S) (events many : ℕ) → ArePointsSoFar before before events many [] 1
  points-start before events many = record {
    left = many;
    found = prepended-none (answers draws before (replicate many events));
    source = refl;
    many_is = omega arith;
    point_is = omega arith;
  }

  pub points-more : (before now next : S) (events many draw point : ℕ) (points more : List ℕ) → ArePointsSoFar before now events many points point
      → point < many + 1 → draws.answer now events ≡ Ok draw
      → next ≡ draws.after_answer now events → more ≡ points ++ draw ∷ [] → ArePointsSoFar before next events many more (point + 1)
  points-more before now next events many draw point points more to lt answered next_is more_is =
      let bounds : replicate to.left events ≡ events ∷ replicate (to.left - 1) events = replicate-more to.left events (omega (arith, to.many_is, to.point_is, lt)) in
      let whole : answers draws now (replicate to.left events) ≡ with_first (Ok draw) (answers draws next (replicate (to.left - 1) events)) =
      ap (answers draws now) bounds ∙ answers-cons draws now events (replicate (to.left - 1) events)
      ∙ (λ i. with_first (answered i) (answers draws (sym next_is i) (replicate (to.left - 1) events))) in
      record {
        left = to.left - 1;
        found = ap (λ l. prepended l (answers draws next (replicate (to.left - 1) events))) more_is
            ∙ sym (point-first points draw (answers draws next (replicate (to.left - 1) events))) ∙ ap (prepended points) (sym whole) ∙ to.found;
        source =
            sym (ap (after_bounds draws now) bounds ∙ after-cons draws now events (replicate (to.left - 1) events)
            ∙ (λ i. unless_refused (answered i) (sym next_is i) (after_bounds draws (sym next_is i) (replicate (to.left - 1) events))))
            ∙ to.source;
        many_is = omega (arith, to.many_is, to.point_is, lt, ap length more_is, length_push points draw);
        point_is = omega (arith, to.point_is, ap length more_is, length_push points draw);
      }

  pub points-refused : (before now next : S) (events many point : ℕ) (points : List ℕ) (fault : DrawFault) → ArePointsSoFar before now events many points point
      → point < many + 1 → draws.answer now events ≡ Err fault
      → next ≡ draws.after_answer now events → (answers draws before (replicate many events) ≡ Err fault) × (next ≡ after_bounds draws before (replicate many events))
  points-refused before now next events many point points fault to lt refused next_is =
      let bounds : replicate to.left events ≡ events ∷ replicate (to.left - 1) events = replicate-more to.left events (omega (arith, to.many_is, to.point_is, lt)) in
      let whole : answers draws now (replicate to.left events) ≡ Err fault =
      ap (answers draws now) bounds ∙ answers-cons draws now events (replicate (to.left - 1) events)
      ∙ ap (λ r. with_first r (answers draws (draws.after_answer now events) (replicate (to.left - 1) events))) refused in (
        sym to.found ∙ ap (prepended points) whole,
        next_is
            ∙ sym (ap (after_bounds draws now) bounds ∙ after-cons draws now events (replicate (to.left - 1) events)
            ∙ ap (λ r. unless_refused r (draws.after_answer now events) (after_bounds draws (draws.after_answer now events) (replicate (to.left - 1) events))) refused)
            ∙ to.source,
      )

  pub points-all : (before now : S) (events many point : ℕ) (points : List ℕ) → ArePointsSoFar before now events many points point → many + 1 ≤ point
      → (answers draws before (replicate many events) ≡ Ok points) × (length points ≡ many) × (now ≡ after_bounds draws before (replicate many events))
  points-all before now events many point points to past =
      let none : to.left ≡ 0 = omega (arith, to.many_is, to.point_is, past) in
      let bounds : replicate to.left events ≡ [] = ap (λ n. replicate n events) none in (
        sym to.found ∙ ap (prepended points) (ap (answers draws now) bounds ∙ answers-nil draws now) ∙ ap Ok (append-nil points),
        omega (arith, to.many_is, none),
        sym (after-nil draws now) ∙ ap (after_bounds draws now) (sym bounds) ∙ to.source,
      )
