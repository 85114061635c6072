-- The first state of a table, and its last, in which one seat has taken in all others and so has every round.
use Rattle.std.proofs.Common.{◌≡◌, ◌≢◌, ℕ, zero, suc, ◌+◌, ◌*◌, ◌<◌, ◌≤◌, false, true≢false, List, [], ◌∷◌, refl, sym, ap, ◌∙◌, subst, arith, Option, Some, inl, ⊎_elim}
use mathlib.Core.Option.{some, none, some-ne-none, some-injective}
use mathlib.Core.Option as maybe
use mathlib.Core.Logic.{dite}
use native.Mathlib.Decide.{dec_le}
use lib.ListN.{get_elem?}
use Rattle.atomic_table.specs.Table.{State, Final, Seen, opening}
use Rattle.turn_table.specs.declared.view.View.{View}
use Rattle.turn_table.specs.Count.{bit, times, below}
use Rattle.turn_table.specs.Rule.{thread_of, numbers_of, rounds_of, turns, Fits, Ruled, first_view}
use Rattle.turn_table.proofs.Totals.{total-two, total-only, below-zero, below-out, empty, below-most}
use Rattle.turn_table.proofs.Views.{some-number-injective}

module _ {T : Type 0} (round : T → ℕ) (granted : T → Option ℕ) where
  abbrev R : State (Option T) View → Type 0
  R = Ruled round granted

  pub opens : (x : T) (h : ℕ) → round x ≡ 0 → granted x ≡ thread_of h → h < 32 → R (opening (h ∷ 0 ∷ []) (Some x ∷ []) first_view)
  opens x h zero_round to small =
      record {
        r = 0;
        h = h;
        w = 0;
        words = ap (λ (m : ℕ). m ∷ 0 ∷ []) (omega arith);
        small = small;
        slot = inl (x, refl, zero_round, to, refl);
        rounds = λ j. sym (below-zero j);
        numbers = λ j. sym (below-zero j);
        one_right = refl;
        fits = one;
      }
    where
      one : (i : ℕ) (v : View) → get_elem? (first_view ∷ []) i ≡ some v → Fits 0 h 0 v
      one zero v e = subst (Fits 0 h 0) (some-injective _ _ e) (record { holds = λ h. absurd (true≢false (sym h)); right = λ m has. some-number-injective (sym has); nobody = λ _. (refl, refl) })
      one (suc i) v e = absurd (some-ne-none v (sym e))

  -- the last state, where one seat has every number
  pub closes : (id n : ℕ) (v : View) (ws : List ℕ) (xs : List (Option T)) → v.turn ≡ false → v.right ≡ Some n → ((k : ℕ) → k < n → 1 ≤ times k (numbers_of v)) → Final (Seen R id v) ws xs
      → (x : T) × (r : ℕ) × (h : ℕ) × (get_elem? xs 0 ≡ some (Some x)) × (round x ≡ r) × (ws ≡ (32 * r + h) ∷ n ∷ []) × (h < 32) × ((j : ℕ) → times j (rounds_of v) ≡ below j r)
  closes id n v ws xs off right all final =
      let s = final.0 in let k = final.1.0 in let at = final.1.1 in
      let is_w : n ≡ k.w = (k.fits id v at).right n right in
      let others : (j : ℕ) (u : View) → j ≢ id → get_elem? s.views j ≡ some u → numbers_of u ≡ [] = λ j u ne e. empty (numbers_of u) (λ m.
      let two = total-two (λ (y : View). times m (numbers_of y)) s.views j id u v ne e at in let c = k.numbers m in
      dite (dec_le n m) (λ (big : n ≤ m). let b = below-out m k.w (omega (arith, big, is_w)) in omega (arith, two, c, b)) (λ less. let b = below-most m k.w in let a = all m (omega (arith, less)) in omega (arith, two, c, b, a))) in
      let on_one : turns s.views ≡ bit v.turn = total-only (λ (y : View). bit y.turn) s.views id v at (λ j u ne e. ap bit ((k.fits j u e).nobody (others j u ne e)).1) in
      let quiet : turns s.views ≡ 0 = on_one ∙ ap bit off in
      let home = ⊎_elim (λ (q : (x : T) × (s.homes ≡ some (Some x) ∷ []) × (round x ≡ k.r) × (granted x ≡ thread_of k.h) × (turns s.views ≡ 0)). q) (λ (o : (s.homes ≡ none ∷ []) × (turns s.views ≡ 1)). absurd (let z = o.1 in omega (arith, z, quiet))) k.slot in (
        home.0,
        k.r,
        k.h,
        final.4 0 (Some home.0) (ap (λ (l : List (maybe.Option (Option T))). get_elem? l 0) home.1),
        home.2,
        sym final.2 ∙ k.words ∙ ap (λ (m : ℕ). (32 * k.r + k.h) ∷ m ∷ []) (sym is_w),
        k.small,
        λ j. let t = total-only (λ (y : View). times j (rounds_of y)) s.views id v at (λ i u ne e. ap (times j) ((k.fits i u e).nobody (others i u ne e)).0) in let c = k.rounds j in
            let d : below j (k.r + turns s.views) ≡ below j k.r = ap (below j) (omega (arith, quiet)) in omega (arith, t, c, d),
      )
