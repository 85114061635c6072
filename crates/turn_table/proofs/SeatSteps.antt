-- How seats are numbered, split and joined under the rule. One seat has the right to number, so each number is given once.
use Rattle.std.proofs.Common.{◌≡◌, ◌≢◌, ℕ, ◌+◌, ◌*◌, ◌%◌, ◌^◌, ◌<◌, false, true≢false, nat_eq, List, [], ◌∷◌, ◌++◌, set, refl, sym, ap, ◌∙◌, subst, arith, Option, Some, None, ⊎_elim}
use Rattle.std.specs.Prelude.{slice_index, slice_set}
use mathlib.Core.Option.{some, none}
use lib.ListN.{get_elem?}
use Rattle.atomic_table.specs.Table.{State, Me, step, Act, keeps, homes_after, carried_after, Valid, Allows, Splits, Joins}
use Rattle.atomic_table.proofs.Lists.{at_set, at_snoc}
use Rattle.turn_table.specs.declared.view.View.{View}
use Rattle.turn_table.specs.Count.{bit, times, below}
use Rattle.turn_table.specs.Rule.{own, is_some, numbers_of, rounds_of, turns, Fits, Slot, Ruled, with_number, IsNumbering, without_right, fresh_view, either_right, joint_view, spent_view}
use Rattle.turn_table.proofs.Totals.{total-set, total-two, total-more, times-append, below-more, bit-same}
use Rattle.turn_table.proofs.Views.{fits-set, no-number, rest-empty, right-none, some-number-injective, some-number}

module _ {T : Type 0} (round : T → ℕ) (granted : T → Option ℕ) where
  abbrev R : State (Option T) View → Type 0
  R = Ruled round granted

  -- a view that is not this one has no right to number
  no-right : (s : State (Option T) View) (k : R s) (id j : ℕ) (v u : View) (n m : ℕ) → get_elem? s.views id ≡ some v → v.right ≡ Some n → j ≢ id → get_elem? s.views j ≡ some u → u.right ≡ Some m → ⊥
  no-right s k id j v u n m at has ne bt also =
      let two = total-two (λ (y : View). bit (is_some y.right)) s.views j id u v ne bt at in
      let a : bit (is_some v.right) ≡ 1 = ap (λ (o : Option ℕ). bit (is_some o)) has in
      let b : bit (is_some u.right) ≡ 1 = ap (λ (o : Option ℕ). bit (is_some o)) also in
      let c = k.one_right in absurd (omega (arith, two, a, b, c))

  abbrev Numbered : State (Option T) View → ℕ → View → List ℕ → Type 0
  Numbered s id v ws = (w : View) × (a : Act (Option T)) × Valid s.homes [] a
      × R (record { words = slice_set ws 1 ((slice_index ws 1 + 1) % 2 ^ 64); homes = homes_after s.homes [] a; views = slice_set s.views id w })
      × IsNumbering (step 1 1 1 0 none) (v, []) (slice_index ws 1) (w, carried_after [] a)

  numbers-at : (s : State (Option T) View) (k : R s) (id : ℕ) (v : View) → get_elem? s.views id ≡ some v → v.right ≡ Some k.w → k.w < 31 → numbers_of v ≡ [] → Numbered s id v ((32 * k.r + k.h) ∷ k.w ∷ [])
  numbers-at s k id v at right small nobody =
      let w : View = with_number v k.w in
      let f = k.fits id v at in
      let views' = set s.views id w in
      let same : turns views' ≡ turns s.views = let t = total-set (λ (u : View). bit u.turn) s.views id v w at in omega (arith, t) in
      let next : (k.w + 1) % 2 ^ 64 ≡ k.w + 1 = omega arith in
      let mine : numbers_of w ≡ k.w ∷ [] = ap (λ (l : List ℕ). k.w ∷ l) (rest-empty v.number v.numbers nobody) in (
        w,
        keeps,
        tt,
        record {
          r = k.r;
          h = k.h;
          w = k.w + 1;
          words = ap (λ (m : ℕ). (32 * k.r + k.h) ∷ m ∷ []) next;
          small = k.small;
          slot = subst (Slot round granted k.r k.h s.homes) (sym same) k.slot;
          rounds = λ j. let t = total-set (λ (u : View). times j (rounds_of u)) s.views id v w at in let c = k.rounds j in let g : below j (k.r + turns views') ≡ below j (k.r + turns s.views) = ap (λ (x : ℕ). below j (k.r + x)) same in omega (arith, t, c, g);
          numbers = λ j. let t = total-set (λ (u : View). times j (numbers_of u)) s.views id v w at in let c = k.numbers j in
              let a : times j (numbers_of v) ≡ 0 = ap (times j) nobody in let b : times j (numbers_of w) ≡ bit (nat_eq j k.w) + 0 = ap (times j) mine in let d = below-more j k.w in omega (arith, t, c, a, b, d);
          one_right = (let t = total-set (λ (u : View). bit (is_some u.right)) s.views id v w at in let c = k.one_right in let a : bit (is_some v.right) ≡ 1 = ap (λ (o : Option ℕ). bit (is_some o)) right in omega (arith, t, c, a));
          fits = fits-set k.r k.h (k.w + 1) s.views id w
              (λ j u ne e. let b = k.fits j u e in record { holds = b.holds; right = λ m has. absurd (no-right s k id j v u k.w m at right ne e has); nobody = b.nobody })
              (record { holds = λ h. absurd (true≢false (sym h ∙ (f.nobody nobody).1)); right = λ m e. sym (some-number-injective e); nobody = λ e. absurd (let z : times k.w (numbers_of w) ≡ 0 = ap (times k.w) e in let b : times k.w (numbers_of w) ≡ bit (nat_eq k.w k.w) + 0 = ap (times k.w) mine in let d = bit-same k.w in omega (arith, z, b, d)) });
        },
        (right, refl, refl),
      )

  pub numbers-as : (slots id n : ℕ) (me : Me (Option T) View) → slots ≡ 1 → me.1 ≡ [] → me.0.right ≡ Some n → n < 31 → numbers_of me.0 ≡ []
      → Allows R slots id me 1 (λ m. (m + 1) % 2 ^ 64) (IsNumbering (step slots 1 1 0 none) me)
  numbers-as slots id n me is held right small nobody =
      subst (λ (p : ℕ × List (ℕ × Option T)). Allows R p.0 id (me.0, p.1) 1 (λ m. (m + 1) % 2 ^ 64) (IsNumbering (step p.0 1 1 0 none) (me.0, p.1))) (λ i. (sym is i, sym held i))
      (λ s k len at fit. let e = (k.fits id me.0 at).right n right in subst (Numbered s id me.0) (sym k.words) (numbers-at s k id me.0 at (right ∙ ap Some e) (omega (arith, e)) nobody))

  -- the right to number is split off
  pub splits : (id : ℕ) (v : View) → Splits R id v (without_right v) (fresh_view v)
  splits id v s k at =
      let a : View = without_right v in
      let b : View = fresh_view v in
      let views' = set s.views id a ++ b ∷ [] in
      let f = k.fits id v at in
      let same : turns views' ≡ turns s.views = let t = total-set (λ (u : View). bit u.turn) s.views id v a at in let q = total-more (λ (u : View). bit u.turn) (set s.views id a) b in omega (arith, t, q) in
      record {
        r = k.r;
        h = k.h;
        w = k.w;
        words = k.words;
        small = k.small;
        slot = subst (Slot round granted k.r k.h s.homes) (sym same) k.slot;
        rounds = λ j. let t = total-set (λ (u : View). times j (rounds_of u)) s.views id v a at in let q = total-more (λ (u : View). times j (rounds_of u)) (set s.views id a) b in let c = k.rounds j in let g : below j (k.r + turns views') ≡ below j (k.r + turns s.views) = ap (λ (x : ℕ). below j (k.r + x)) same in omega (arith, t, q, c, g);
        numbers = λ j. let t = total-set (λ (u : View). times j (numbers_of u)) s.views id v a at in let q = total-more (λ (u : View). times j (numbers_of u)) (set s.views id a) b in let c = k.numbers j in omega (arith, t, q, c);
        one_right = (let t = total-set (λ (u : View). bit (is_some u.right)) s.views id v a at in let q = total-more (λ (u : View). bit (is_some u.right)) (set s.views id a) b in let c = k.one_right in omega (arith, t, q, c));
        fits = λ j u e. ⊎_elim
            (λ was. fits-set k.r k.h k.w s.views id a (λ i y _ e. k.fits i y e) (record { holds = f.holds; right = λ m has. absurd (no-number has); nobody = f.nobody }) j u was)
            (λ (is : b ≡ u). subst (Fits k.r k.h k.w) is (record { holds = λ h. absurd (true≢false (sym h)); right = f.right; nobody = λ _. (refl, refl) }))
            (at_snoc (set s.views id a) b u j e);
      }

  -- a seat takes in another, which is spent
  pub joins : (id : ℕ) (v : View) (other_id : ℕ) (u : View) (n : ℕ) → v.number ≡ Some n → u.right ≡ None → u.turn ≡ false → Joins R id v other_id u (joint_view v u) spent_view
  joins id v other_id u n num no-right off s k at ne at' =
      let w : View = joint_view v u in
      let vs = set s.views id w in
      let views' = set vs other_id spent_view in
      let f = k.fits id v at in
      let there : get_elem? s.views other_id ≡ some u = ⊎_elim (λ (t : (other_id ≡ id) × (w ≡ u)). absurd (ne t.0)) (λ (t : (other_id ≢ id) × (get_elem? s.views other_id ≡ some u)). t.1) (at_set s.views id other_id w u at') in
      let g = k.fits other_id u there in
      let z : bit u.turn ≡ 0 = ap bit off in
      let mine : either_right v.right u.right ≡ v.right = ap (either_right v.right) no-right ∙ right-none v.right in
      let same : turns views' ≡ turns s.views = let t = total-set (λ (y : View). bit y.turn) s.views id v w at in let q = total-set (λ (y : View). bit y.turn) vs other_id u spent_view at' in omega (arith, t, q, z) in
      record {
        r = k.r;
        h = k.h;
        w = k.w;
        words = k.words;
        small = k.small;
        slot = subst (Slot round granted k.r k.h s.homes) (sym same) k.slot;
        rounds = λ j. let t = total-set (λ (y : View). times j (rounds_of y)) s.views id v w at in let q = total-set (λ (y : View). times j (rounds_of y)) vs other_id u spent_view at' in let c = k.rounds j in
            let a = times-append j v.rounds v.given in let b = times-append j v.rounds (v.given ++ rounds_of u) in let d = times-append j v.given (rounds_of u) in
            let i : below j (k.r + turns views') ≡ below j (k.r + turns s.views) = ap (λ (x : ℕ). below j (k.r + x)) same in omega (arith, t, q, c, a, b, d, i);
        numbers = λ j. let t = total-set (λ (y : View). times j (numbers_of y)) s.views id v w at in let q = total-set (λ (y : View). times j (numbers_of y)) vs other_id u spent_view at' in let c = k.numbers j in
            let a = times-append j (own v.number) v.numbers in let b = times-append j (own v.number) (v.numbers ++ numbers_of u) in let d = times-append j v.numbers (numbers_of u) in omega (arith, t, q, c, a, b, d);
        one_right = (let t = total-set (λ (y : View). bit (is_some y.right)) s.views id v w at in let q = total-set (λ (y : View). bit (is_some y.right)) vs other_id u spent_view at' in let c = k.one_right in
            let a : bit (is_some u.right) ≡ 0 = ap (λ (o : Option ℕ). bit (is_some o)) no-right in let b : bit (is_some (either_right v.right u.right)) ≡ bit (is_some v.right) = ap (λ (o : Option ℕ). bit (is_some o)) mine in omega (arith, t, q, c, a, b));
        fits = fits-set k.r k.h k.w vs other_id spent_view
            (λ j y _ e. fits-set k.r k.h k.w s.views id w (λ i x _ e. k.fits i x e)
            (record { holds = f.holds; right = λ m has. f.right m (sym mine ∙ has); nobody = λ e. absurd (some-number w n num e) }) j y e)
            (record { holds = λ h. absurd (true≢false (sym h)); right = λ m has. absurd (no-number has); nobody = λ _. (refl, refl) });
      }
