-- The load of the turn word keeps the rule. Where the word names the seat, the slot is home: were it out, another seat
-- would hold a turn and be named too, and no two seats have one number. So the slot comes to the seat with its state.
use Rattle.std.proofs.Common.{◌≡◌, ◌≢◌, ℕ, ◌+◌, ◌*◌, ◌/◌, ◌%◌, ◌<◌, Bool, false, true≢false, nat_eq, List, [], ◌∷◌, ◌++◌, set, refl, sym, ap, ◌∙◌, subst, arith, Option, Some, inr, ⊎_elim, eq-eqb, ne_eqb}
use Rattle.std.specs.Prelude.{slice_index, slice_set, MatchBool, ◌==◌}
use mathlib.Core.Option.{some, none, some-injective}
use mathlib.Core.Option as maybe
use mathlib.Core.Logic.{dite}
use native.Mathlib.Decide.{ℕ_discrete}
use lib.ListN.{get_elem?}
use Rattle.atomic_table.specs.Table.{State, Me, step, Act, keeps, takes, homes_after, carried_after, Valid, Allows}
use Rattle.turn_table.specs.declared.view.View.{View}
use Rattle.turn_table.specs.Count.{AreBelow, bit, times, below}
use Rattle.turn_table.specs.Rule.{thread_of, is_some, numbers_of, rounds_of, turns, Slot, Ruled, number_or, after_look, with_turn, IsLook, Mine, NotMine}
use Rattle.turn_table.proofs.Totals.{total-set, total-here, total-some, times-append, below-out, below-more, round-back}
use Rattle.turn_table.proofs.Views.{apart, bit-true, fits-set, some-number, thread-small}

module _ {T : Type 0} (round : T → ℕ) (granted : T → Option ℕ) where
  abbrev R : State (Option T) View → Type 0
  R = Ruled round granted

  abbrev Goes : State (Option T) View → ℕ → View → List ℕ → Type 0
  Goes s id v ws = (w : View) × (a : Act (Option T)) × Valid s.homes [] a × R (record { words = slice_set ws 0 (slice_index ws 0); homes = homes_after s.homes [] a; views = slice_set s.views id w })
      × IsLook round granted (step 1 0 0 0 none) (v, []) (slice_index ws 0) (w, carried_after [] a)

  -- the slot is out, and the seat that is named holds no turn: no
  not-out : (s : State (Option T) View) (k : R s) (id : ℕ) (v : View) → get_elem? s.views id ≡ some v → v.turn ≡ false → v.number ≡ Some k.h → turns s.views ≡ 1 → ⊥
  not-out s k id v at off num one =
      let t = total-some (λ (u : View). bit u.turn) s.views (omega arith) in
      let on = bit-true t.1.turn t.3 in
      let u = (k.fits t.0 t.1 t.2).holds on in
      let ne : t.0 ≢ id = λ e. let same = some-injective t.1 v (sym t.2 ∙ ap (get_elem? s.views) e ∙ at) in true≢false (sym on ∙ ap (λ (x : View). x.turn) same ∙ off) in
      apart s.views k.w k.numbers t.0 id t.1 v k.h ne t.2 at u.0 num

  named : (s : State (Option T) View) (k : R s) (id : ℕ) (v : View) → get_elem? s.views id ≡ some v → v.turn ≡ false → v.number ≡ Some k.h → k.h < 31 → Goes s id v ((32 * k.r + k.h) ∷ k.w ∷ [])
  named s k id v at off num small = ⊎_elim home (λ out. absurd (not-out s k id v at off num out.1)) k.slot
    where
      n : ℕ
      n = 32 * k.r + k.h

      home : ((x : T) × (s.homes ≡ some (Some x) ∷ []) × (round x ≡ k.r) × (granted x ≡ thread_of k.h) × (turns s.views ≡ 0)) → Goes s id v ((32 * k.r + k.h) ∷ k.w ∷ [])
      home q =
          let w : View = with_turn v n in
          let back = round-back k.r k.h k.small in
          let views' = set s.views id w in
          let on : turns views' ≡ 1 = let t = total-set (λ (u : View). bit u.turn) s.views id v w at in let z : bit v.turn ≡ 0 = ap bit off in omega (arith, t, z, q.4) in
          let earlier : AreBelow (n / 32) v.rounds = λ j most.
          let t = total-here (λ (u : View). times j (rounds_of u)) s.views id v at in
          let c = times-append j v.rounds v.given in
          let f = k.rounds j in
          let g : below j (k.r + turns s.views) ≡ below j k.r = ap (below j) (omega (arith, q.4)) in
          let e = below-out j k.r (omega (arith, back.0, most)) in
          omega (arith, t, c, f, g, e) in
          let gone : slice_set s.homes 0 none ≡ none ∷ [] = ap (λ (l : List (maybe.Option (Option T))). slice_set l 0 none) q.1 in (
            w,
            takes 0 (Some q.0),
            ap (λ (l : List (maybe.Option (Option T))). get_elem? l 0) q.1,
            record {
              r = k.r;
              h = k.h;
              w = k.w;
              words = refl;
              small = k.small;
              slot = inr (gone, on);
              rounds = λ j.
                  let t = total-set (λ (u : View). times j (rounds_of u)) s.views id v w at in
                  let a = times-append j (v.rounds ++ n / 32 ∷ []) v.given in
                  let b = times-append j v.rounds (n / 32 ∷ []) in
                  let c = times-append j v.rounds v.given in
                  let d : bit (nat_eq j (n / 32)) ≡ bit (nat_eq j k.r) = ap (λ (x : ℕ). bit (nat_eq j x)) back.0 in
                  let e = below-more j k.r in
                  let f = k.rounds j in
                  let g : below j (k.r + turns s.views) ≡ below j k.r = ap (below j) (omega (arith, q.4)) in
                  let i : below j (k.r + turns views') ≡ below j (k.r + 1) = ap (below j) (omega (arith, on)) in
                  omega (arith, t, a, b, c, d, e, f, g, i);
              numbers = λ j. let t = total-set (λ (u : View). times j (numbers_of u)) s.views id v w at in let f = k.numbers j in omega (arith, t, f);
              one_right = (let t = total-set (λ (u : View). bit (is_some u.right)) s.views id v w at in let f = k.one_right in omega (arith, t, f));
              fits = fits-set k.r k.h k.w s.views id w (λ j u _ e. k.fits j u e) (record { holds = λ _. (num, back.0); right = (k.fits id v at).right; nobody = λ e. absurd (some-number v k.h num e) });
            },
            subst (λ (b : Bool). MatchBool b (Mine round granted v n (w, (0, Some q.0) ∷ [])) (NotMine {T = T} v n (w, (0, Some q.0) ∷ [])))
                (sym (eq-eqb (n % 32) (number_or v.number) (back.1 ∙ sym (ap number_or num))))
                (q.0, refl, q.2 ∙ sym back.0, q.3 ∙ thread-small k.h small ∙ sym num, refl, earlier),
          )

  other : (s : State (Option T) View) (k : R s) (id : ℕ) (v : View) (m : ℕ) → get_elem? s.views id ≡ some v → v.number ≡ Some m → k.h ≢ m → Goes s id v ((32 * k.r + k.h) ∷ k.w ∷ [])
  other s k id v m at num ne =
      let n : ℕ = 32 * k.r + k.h in
      let w : View = after_look v n in
      let back = round-back k.r k.h k.small in
      let views' = set s.views id w in
      let same : turns views' ≡ turns s.views = let t = total-set (λ (u : View). bit u.turn) s.views id v w at in omega (arith, t) in (
        w,
        keeps,
        tt,
        record {
          r = k.r;
          h = k.h;
          w = k.w;
          words = refl;
          small = k.small;
          slot = subst (Slot round granted k.r k.h s.homes) (sym same) k.slot;
          rounds = λ j. let t = total-set (λ (u : View). times j (rounds_of u)) s.views id v w at in let f = k.rounds j in let g : below j (k.r + turns views') ≡ below j (k.r + turns s.views) = ap (λ (x : ℕ). below j (k.r + x)) same in omega (arith, t, f, g);
          numbers = λ j. let t = total-set (λ (u : View). times j (numbers_of u)) s.views id v w at in let f = k.numbers j in omega (arith, t, f);
          one_right = (let t = total-set (λ (u : View). bit (is_some u.right)) s.views id v w at in let f = k.one_right in omega (arith, t, f));
          fits = fits-set k.r k.h k.w s.views id w (λ j u _ e. k.fits j u e) (let f = k.fits id v at in record { holds = f.holds; right = f.right; nobody = f.nobody });
        },
        subst (λ (b : Bool). MatchBool b (Mine round granted v n (w, [])) (NotMine {T = T} v n (w, [])))
            (sym (ne_eqb (n % 32) (number_or v.number) (λ e. ne (sym back.1 ∙ e ∙ ap number_or num))))
            (refl, refl),
      )

  pub looks : (id : ℕ) (v : View) (n : ℕ) → v.turn ≡ false → v.number ≡ Some n → n < 31 → Allows R 1 id (v, []) 0 (λ x. x) (IsLook round granted (step 1 0 0 0 none) (v, []))
  looks id v n off num small s k len at fit =
      subst (Goes s id v) (sym k.words) (dite (ℕ_discrete k.h n) (λ e. named s k id v at off (num ∙ ap Some (sym e)) (omega arith)) (λ ne. other s k id v n at num ne))

  pub looks-as : (slots id n : ℕ) (me : Me (Option T) View) → slots ≡ 1 → me.1 ≡ [] → me.0.turn ≡ false → me.0.number ≡ Some n → n < 31
      → Allows R slots id me 0 (λ x. x) (IsLook round granted (step slots 0 0 0 none) me)
  looks-as slots id n me is none_held off num small =
      subst (λ (p : ℕ × List (ℕ × Option T)). Allows R p.0 id (me.0, p.1) 0 (λ x. x) (IsLook round granted (step p.0 0 0 0 none) (me.0, p.1))) (λ i. (sym is i, sym none_held i)) (looks id me.0 n off num small)

  -- where the word names the seat, the load gave it the turn
  pub is-mine : (v : View) (n m : ℕ) (w : Me (Option T) View) → v.number ≡ Some m → n % 32 ≡ m → MatchBool (n % 32 == number_or v.number) (Mine round granted v n w) (NotMine v n w) → Mine round granted v n w
  is-mine v n m w num same l = subst (λ (b : Bool). MatchBool b (Mine round granted v n w) (NotMine v n w)) (eq-eqb (n % 32) (number_or v.number) (same ∙ sym (ap number_or num))) l

  pub is-other : (v : View) (n m : ℕ) (w : Me (Option T) View) → v.number ≡ Some m → n % 32 ≢ m → MatchBool (n % 32 == number_or v.number) (Mine round granted v n w) (NotMine v n w) → NotMine v n w
  is-other v n m w num differ l = subst (λ (b : Bool). MatchBool b (Mine round granted v n w) (NotMine v n w)) (ne_eqb (n % 32) (number_or v.number) (λ e. differ (e ∙ ap number_or num))) l
