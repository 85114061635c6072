-- The exchange that passes a turn on keeps the rule: the word is still the one that gave the turn, the slot goes home
-- with a state of the next round, and no seat holds a turn.
use Rattle.std.proofs.Common.{◌≡◌, ℕ, ◌+◌, ◌*◌, ◌<◌, ◌≤◌, Bool, true, true≢false, List, [], ◌∷◌, set, refl, sym, ap, ◌∙◌, subst, arith, Option, Some, inl, ⊎_elim, eq-eqb}
use Rattle.std.specs.Prelude.{slice_index, slice_set, ◌==◌}
use mathlib.Core.Option.{some, none}
use mathlib.Core.Option as maybe
use lib.ListN.{get_elem?}
use prog.Atomic.{either}
use Rattle.atomic_table.specs.Table.{State, Me, step, Act, gives, homes_after, carried_after, Valid, Allows}
use Rattle.turn_table.specs.declared.view.View.{View}
use Rattle.turn_table.specs.Count.{bit, times, below}
use Rattle.turn_table.specs.Rule.{thread_of, is_some, numbers_of, rounds_of, turns, Ruled, after_pass, IsPass}
use Rattle.turn_table.proofs.Totals.{total-set, total-here, total-two}
use Rattle.turn_table.proofs.Views.{fits-set, some-number-injective}

module _ {T : Type 0} (round : T → ℕ) (granted : T → Option ℕ) where
  abbrev R : State (Option T) View → Type 0
  R = Ruled round granted

  abbrev Ends : State (Option T) View → ℕ → View → T → ℕ → List ℕ → Type 0
  Ends s id v x new ws = (w : View) × (a : Act (Option T)) × Valid s.homes ((0, Some x) ∷ []) a
      × R (record { words = slice_set ws 0 new; homes = homes_after s.homes ((0, Some x) ∷ []) a; views = slice_set s.views id w })
      × ((w ≡ after_pass v) × (carried_after ((0, Some x) ∷ []) a ≡ []))

  -- the holder gives the state back, of the next round
  ends : (s : State (Option T) View) (k : R s) (id : ℕ) (v : View) (x : T) (g : ℕ) → get_elem? s.views id ≡ some v → v.turn ≡ true → round x ≡ k.r + 1 → granted x ≡ thread_of g → g < 32 → Ends s id v x (32 * (k.r + 1) + g) ((32 * k.r + k.h) ∷ k.w ∷ [])
  ends s k id v x g at on next to small =
      let w : View = after_pass v in
      let views' = set s.views id w in
      let mine : bit v.turn ≡ 1 = ap bit on in
      let some_on : 1 ≤ turns s.views = let t = total-here (λ (u : View). bit u.turn) s.views id v at in omega (arith, t, mine) in
      let out : (s.homes ≡ none ∷ []) × (turns s.views ≡ 1) = ⊎_elim (λ (q : (x : T) × (s.homes ≡ some (Some x) ∷ []) × (round x ≡ k.r) × (granted x ≡ thread_of k.h) × (turns s.views ≡ 0)). absurd (let z = q.4 in omega (arith, z, some_on))) (λ o. o) k.slot in
      let off : turns views' ≡ 0 = let t = total-set (λ (u : View). bit u.turn) s.views id v w at in let z = out.1 in omega (arith, t, mine, z) in
      let f = k.fits id v at in (
        w,
        gives,
        tt,
        record {
          r = k.r + 1;
          h = g;
          w = k.w;
          words = refl;
          small = small;
          slot = inl (x, ap (λ (l : List (maybe.Option (Option T))). slice_set l 0 (some (Some x))) out.0, next, to, off);
          rounds = λ j. let t = total-set (λ (u : View). times j (rounds_of u)) s.views id v w at in let c = k.rounds j in
              let e : below j (k.r + turns s.views) ≡ below j (k.r + 1) = ap (λ (m : ℕ). below j (k.r + m)) out.1 in
              let d : below j (k.r + 1 + turns views') ≡ below j (k.r + 1) = ap (below j) (omega (arith, off)) in omega (arith, t, c, d, e);
          numbers = λ j. let t = total-set (λ (u : View). times j (numbers_of u)) s.views id v w at in let c = k.numbers j in omega (arith, t, c);
          one_right = (let t = total-set (λ (u : View). bit (is_some u.right)) s.views id v w at in let c = k.one_right in omega (arith, t, c));
          fits = fits-set (k.r + 1) g k.w s.views id w
              (λ j u ne e. let b = k.fits j u e in record {
                holds = λ h. absurd (let two = total-two (λ (y : View). bit y.turn) s.views j id u v ne e at in let z : bit u.turn ≡ 1 = ap bit h in let o = out.1 in omega (arith, two, z, mine, o));
                right = b.right;
                nobody = b.nobody;
              })
              (record { holds = λ h. absurd (true≢false (sym h)); right = f.right; nobody = λ e. ((f.nobody e).0, refl) });
        },
        (refl, refl),
      )

  pub passes : (id : ℕ) (v : View) (x : T) (q n g : ℕ) → v.turn ≡ true → v.number ≡ Some n → v.last ≡ q → round x ≡ q + 1 → granted x ≡ thread_of g → g < 32
      → Allows R 1 id (v, (0, Some x) ∷ []) 0 (λ m. either (m == 32 * q + n) (32 * (q + 1) + g) m) (IsPass (step 1 0 (32 * q + n) (32 * (q + 1) + g) none) (v, (0, Some x) ∷ []))
  passes id v x q n g on num last next to small s k len at fit =
      let f = (k.fits id v at).holds on in
      let is_h : n ≡ k.h = some-number-injective (sym num ∙ f.0) in
      let is_r : q ≡ k.r = sym last ∙ f.1 in
      let P : List ℕ → Type 0 = λ ws. (w : View) × (a : Act (Option T)) × Valid s.homes ((0, Some x) ∷ []) a
      × R (record { words = slice_set ws 0 (either (slice_index ws 0 == 32 * q + n) (32 * (q + 1) + g) (slice_index ws 0)); homes = homes_after s.homes ((0, Some x) ∷ []) a; views = slice_set s.views id w })
      × IsPass (step 1 0 (32 * q + n) (32 * (q + 1) + g) none) (v, (0, Some x) ∷ []) (slice_index ws 0) (w, carried_after ((0, Some x) ∷ []) a) in
      let e = ends s k id v x g at on (next ∙ ap (λ (y : ℕ). y + 1) is_r) to small in
      let old : 32 * k.r + k.h ≡ 32 * q + n = omega (arith, is_h, is_r) in
      let new : either ((32 * k.r + k.h) == 32 * q + n) (32 * (q + 1) + g) (32 * k.r + k.h) ≡ 32 * (k.r + 1) + g = ap (λ (b : Bool). either b (32 * (q + 1) + g) (32 * k.r + k.h)) (eq-eqb _ _ old) ∙ omega (arith, is_r) in
      subst P (sym k.words) (e.0, e.1, e.2, subst (λ (m : ℕ). R (record { words = m ∷ k.w ∷ []; homes = homes_after s.homes ((0, Some x) ∷ []) e.1; views = slice_set s.views id e.0 })) (sym new) e.3, (old, e.4.1, e.4.0))

  pub passes-as : (slots id q n g old new : ℕ) (x : T) (me : Me (Option T) View) → slots ≡ 1 → me.1 ≡ (0, Some x) ∷ [] → me.0.turn ≡ true → me.0.number ≡ Some n → me.0.last ≡ q → round x ≡ q + 1 → granted x ≡ thread_of g → g < 32
      → old ≡ 32 * q + n → new ≡ 32 * (q + 1) + g → Allows R slots id me 0 (λ m. either (m == old) new m) (IsPass (step slots 0 old new none) me)
  passes-as slots id q n g old new x me is held on num last next to small is_old is_new =
      subst (λ (p : (ℕ × List (ℕ × Option T)) × ℕ × ℕ). Allows R p.0.0 id (me.0, p.0.1) 0 (λ m. either (m == p.1) p.2 m) (IsPass (step p.0.0 0 p.1 p.2 none) (me.0, p.0.1))) (λ i. ((sym is i, sym held i), sym is_old i, sym is_new i)) (passes id me.0 x q n g on num last next to small)
